-- `put_counts` meets its contract: two numbers at the front (ReportWritten).
use native.Mathlib.Omega.{arith}
use Rattle.vachodien.proofs.ReportWritten.{over_counts}
use Rattle.vachodien.proofs.report.put_counts.Goals as goal

pub returns : goal.returns
returns c =
    over_counts _ _ _ _ _ (omega arith) (omega arith) (rw c.copy_from_slice.ensures.after c.to_be_bytes.ensures)
    (rw c.copy_from_slice-2.ensures.after c.to_be_bytes-2.ensures)
