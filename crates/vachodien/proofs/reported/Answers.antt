-- `reported` meets its contract: a malformed sheet is answered with its place, and of a good one the report of its run is written
-- where it fits (SheetReplied).
use Prim.Native.Nat.{ℕ}
use native.Mathlib.Omega.{arith}
use lib.ListN.{length-replicate}
use Rattle.running.proofs.RunTold.{records_kept, few_commands}
use Rattle.vachodien.specs.Replied.{call_number, reported_number}
use Rattle.vachodien.proofs.SheetReplied.{malformed_called, no_room, good_called}
use Rattle.vachodien.proofs.reported.Goals as goal

pub report-requires-clause-n_le_most_commands : goal.report-requires-clause-n_le_most_commands
report-requires-clause-n_le_most_commands c = few_commands c.run-checked.ensures c.in_ok-header.was

pub report-requires-clause-n_in_bounds : goal.report-requires-clause-n_in_bounds
report-requires-clause-n_in_bounds c =
    let few = few_commands c.run-checked.ensures c.in_ok-header.was in
    omega (arith, few, records_kept c.run-checked.ensures (length-replicate {A = ℕ} 12288 0))

pub returns-in_err-header : goal.returns-in_err-header
returns-in_err-header c = malformed_called c.run-checked.ensures c.in_err-header.was _ c.from_residual.ensures.1 _

pub returns-in_err-report : goal.returns-in_err-report
returns-in_err-report c =
    good_called c.run-checked.ensures c.in_ok-header.was _ _ _ c.report.ensures _ (no_room _ _ _ c.from_residual-in_err-report.ensures.1 c.in_err-report.was)

pub returns : goal.returns
unfolding call_number reported_number
returns c = good_called c.run-checked.ensures c.in_ok-header.was _ _ _ c.report.ensures _ (rw c.in_ok-report.was)
