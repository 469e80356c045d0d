-- `command_at` meets its contract: the record is asked for first, then its number, and then the
-- length of its body, as the definition asks (Handed). Assumes nothing.
use mathlib.Core.Path.{sym, ◌∙◌}
use native.Mathlib.Omega.{arith}
use Rattle.std.proofs.Common.{rules}
use Rattle.sheets.specs.Bytes.{byte_at}
use Rattle.writer.specs.Writer.{handed_number, handed_length}
use Rattle.writer.proofs.Handed.{not_whole, unknown, other_length}
use Rattle.writer.proofs.records.command_at.Goals as goal

pub returns-then-handed-at : goal.returns-then-handed-at
returns-then-handed-at c policy n = not_whole _ _ policy n (omega (arith, c.if-handed-at.true))

pub returns-then-not-known_number : goal.returns-then-not-known_number
unfolding byte_at handed_length handed_number
returns-then-not-known_number c policy n = search (rules, unknown, other_length)

pub held_at-requires : goal.held_at-requires
unfolding byte_at handed_length handed_number
held_at-requires c =
    record {
      whole = omega (arith, c.if-handed-at.false);
      known = sym c.if-not-known_number.ensures;
      its_length = c.if-long-body_length.false ∙ c.body_length.ensures;
    }
