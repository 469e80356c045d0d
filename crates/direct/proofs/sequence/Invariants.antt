-- The loop's invariant: the token comes from a fresh one by earlier calls under the policy, and what is answered is at most half as long
-- again as what is read.
use lib.ListN.{length}
use Rattle.arrayvec.specs.ArrayVec.{array_vec_len}
use Rattle.running.specs.Direct.{Reached}
use Rattle.direct.specs.Progress.{Underway}
use Rattle.direct.proofs.sequence.Given as goal

abbrev pub invariant-loop : goal.invariant-loop
invariant-loop l = record {
  comes : Reached l.now l.policy;
  underway : Underway (length l.fn.input) (array_vec_len l.initial.out) (length l.rest) (array_vec_len l.out);
}
