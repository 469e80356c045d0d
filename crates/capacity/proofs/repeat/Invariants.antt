-- The token comes from a fresh one by earlier calls.
use Rattle.running.specs.Direct.{Reached}
use Rattle.capacity.proofs.repeat.Given as goal

abbrev pub invariant-loop : goal.invariant-loop
invariant-loop g l = Reached l.now 0
