-- `row_inside` meets its contract: each return stands behind the tests that decide it (Tests). Assumes nothing.
use native.Mathlib.Omega.{arith}
use mathlib.Core.Path.{ap}
use Prim.Native.Nat.{◌+◌}
use Rattle.sheets.specs.Faults.{body_length}
use Rattle.reader.specs.declared.table.Row.{Row}
use Rattle.reader.proofs.Tests.{begin_next, entry_outside, body_outside, is_inside}
use Rattle.reader.proofs.table.row_inside.Goals as goal

pub returns-then-sheet-bodies_begin : goal.returns-then-sheet-bodies_begin
returns-then-sheet-bodies_begin c = entry_outside _ _ (omega (arith, c.bodies_begin.ensures, begin_next c.args.i))

pub returns-then-sheet-end : goal.returns-then-sheet-end
returns-then-sheet-end c =
    let ends = ap (λ (r : Row). r.offset + body_length r.number) c.row_at-row.ensures in
    body_outside _ _ (omega (arith, c.end.ensures, ends))

pub returns : goal.returns
returns c = (
  is_inside _ _
      (record {
        entry_inside = omega (arith, c.bodies_begin.ensures, begin_next c.args.i);
        body_inside = omega (arith, c.end.ensures, ap (λ (r : Row). r.offset + body_length r.number) c.row_at-row.ensures);
      }),
  c.row_at-row.ensures,
)
