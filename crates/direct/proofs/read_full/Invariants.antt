-- `read_full` is safe and ends: what is read so far is inside the bytes, and each turn reads at least one more.
use Rattle.std.proofs.Common.{◌≤◌, ◌-◌, length}
use Rattle.direct.proofs.read_full.Given as goal

abbrev pub invariant-loop-n : goal.invariant-loop-n
invariant-loop-n g l = l.n ≤ length l.bytes

abbrev pub decreases-loop-n : goal.decreases-loop-n
decreases-loop-n g l = length l.bytes - l.n
