-- `body` meets its contract: the body that is there lies inside the sheet, from its offset to its end (Tests). Assumes nothing.
use Prim.Native.Nat.{◌+◌}
use native.Mathlib.Omega.{arith}
use mathlib.Core.Path.{ap, sym, ◌∙◌}
use Rattle.sheets.specs.Faults.{body_length}
use Rattle.reader.specs.declared.table.Row.{Row}
use Rattle.reader.proofs.Tests.{inside, no_body, part_is}
use Rattle.reader.proofs.body.Goals as goal

pub returns-in_default : goal.returns-in_default
returns-in_default c = sym (no_body _ _ c.in_default.ensures)

pub slice_bounds-result-end-2 : goal.slice_bounds-result-end-2
slice_bounds-result-end-2 c =
    let (there, read) = c.in-Some.ensures in
    omega (arith, c.end.ensures, (inside _ _ there).body_inside, ap (λ (r : Row). r.offset + body_length r.number) read)

pub returns : goal.returns
returns c =
    let (there, read) = c.in-Some.ensures in
    part_is _ _ _ _ there (ap (λ (r : Row). r.offset) read)
    (c.end.ensures ∙ ap (λ (r : Row). c.in-Some.row.offset + body_length r.number) read)
