-- The measure is what is left of the input, of which each sequence takes three bytes at least. What is answered is at most half as long
-- again as what is read.
use lib.ListN.{length}
use Rattle.arrayvec.specs.ArrayVec.{array_vec_len}
use Rattle.direct.specs.Progress.{Underway}
use Rattle.direct.proofs.sequences.Given as goal

abbrev pub decreases-loop-rest : goal.decreases-loop-rest
decreases-loop-rest l = length l.rest

abbrev pub invariant-loop-rest : goal.invariant-loop-rest
invariant-loop-rest l = Underway (length l.input) (array_vec_len l.initial.out) (length l.rest) (array_vec_len l.out)
