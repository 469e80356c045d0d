-- `repeat` meets its contract: the token of each call may be called again. Rests on running's Going.
use Rattle.running.proofs.Going.{reached_again}
use Rattle.capacity.proofs.repeat.Goals as goal

pub loop-preserved : goal.loop-preserved
loop-preserved g c = reached_again _ _ _ c.loop.invariant c.call-called.ensures
