-- `advance` meets its contract: each turn of the loop looks, decides, and makes the change, and what was so far goes on (Advancing).
use Rattle.running.proofs.Advancing.{AdvancedTo}
use Rattle.running.proofs.advance.advance.Given as goal

abbrev pub invariant-loop-i : goal.invariant-loop-i
invariant-loop-i l = AdvancedTo l.header.policy l.sheet l.header.count l.initial.records l.initial.token l.i l.records l.token
