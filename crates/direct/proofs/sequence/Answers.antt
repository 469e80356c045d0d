-- `sequence` meets its contract: one call more leaves a token that may be called again, and three bytes answered for two or more that are
-- read. Rests on running's Going.
use native.Mathlib.Omega.{arith}
use Rattle.running.proofs.Going.{reached_again}
use Rattle.direct.proofs.Begun.{reached_begun}
use Rattle.direct.proofs.sequence.Goals as goal

pub loop-init : goal.loop-init
loop-init c = record { comes = rw c.fresh-now.ensures (reached_begun _); underway = (omega arith, omega arith) }

pub loop-preserved : goal.loop-preserved
loop-preserved c =
    record {
      comes = reached_again _ _ _ c.loop.invariant.comes c.call_on-said.ensures;
      underway = (
        omega (arith, c.in_ok-call.ensures, c.loop.invariant.underway.0),
        omega (arith, c.in_ok-call.ensures, c.loop.invariant.underway.1, c.push.ensures.len, c.push-in-loop.ensures.len, c.push-in-loop-2.ensures.len),
      );
    }
