-- With i lines behind, those are put (CommandLines).
use native.Mathlib.Omega.{arith}
use Rattle.text.proofs.CommandLines.{lined_none, lined_next}
use Rattle.text.proofs.lines.write_lines.Goals as goal

pub loop-i-init : goal.loop-i-init
loop-i-init c = lined_none _ _ _ (omega arith)

pub loop-i-preserved : goal.loop-i-preserved
loop-i-preserved c = lined_next _ _ _ c.loop-i.invariant _ c.from_be_bytes-value.ensures c.write_line.ensures
