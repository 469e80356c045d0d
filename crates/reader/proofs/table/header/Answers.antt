-- `header` meets its contract: each return stands behind the tests that decide it (Tests). Assumes nothing.
use native.Mathlib.Omega.{arith}
use mathlib.Core.Path.{refl}
use Rattle.std.proofs.Common.{rules}
use Rattle.sheets.specs.Bytes.{byte_at}
use Rattle.sheets.specs.Faults.{count}
use Rattle.sheets.proofs.Faultless.{header_exactly}
use Rattle.reader.proofs.Tests.{header_short, policy_above, count_above, table_outside}
use Rattle.reader.proofs.table.header.Goals as goal

pub returns-then-sheet-lt3 : goal.returns-then-sheet-lt3
returns-then-sheet-lt3 c = (header_short _ c.if-sheet-lt3.true, refl)

pub returns-then-policy-gt-MOST_POLICY : goal.returns-then-policy-gt-MOST_POLICY
unfolding byte_at count
returns-then-policy-gt-MOST_POLICY c = (search (rules, policy_above, count_above, table_outside), refl)

pub returns : goal.returns
unfolding byte_at count
returns c = (
  (header_exactly _).1
      (record {
        has_header = c.if-sheet-lt3.false;
        policy_below = c.if-policy-gt-MOST_POLICY.false;
        few = omega (arith, c.two_at-count.ensures);
        table_inside = rw (← c.two_at-count.ensures, ← c.bodies_begin.ensures) c.if-sheet-bodies_begin.false;
      }),
  rw c.two_at-count.ensures,
)
