-- The token comes from a fresh one by earlier calls.
use Rattle.running.specs.Direct.{Reached}
use Rattle.capacity.proofs.exercise.Given as goal

abbrev pub invariant-loop-times : goal.invariant-loop-times
invariant-loop-times g l = Reached l.token 0
