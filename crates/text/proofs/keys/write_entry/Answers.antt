-- A known key's entry has its line, any other has none (KnownKeyLines).
use native.Mathlib.Omega.{arith}
use mathlib.Core.Path.{sym, ap, ◌∙◌}
use Rattle.shapes.specs.declared.KeyNo.{KeyNo}
use Rattle.text.proofs.KnownKeyLines.{puts_unmarked, puts_marked}
use Rattle.text.proofs.keys.write_entry.Goals as goal

pub returns-then-is_known : goal.returns-then-is_known
returns-then-is_known c = puts_marked _ _ (sym c.is_known.ensures ∙ c.if-is_known.true) (ap (λ (k : KeyNo). k.0) c.key_of.ensures)
    c.write_key.ensures

pub returns-else-is_known : goal.returns-else-is_known
returns-else-is_known c = puts_unmarked _ _ (sym c.is_known.ensures ∙ c.if-is_known.false) (omega (arith, c.requires))
