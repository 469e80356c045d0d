-- `look_through` meets its contract. The loop's invariant:
-- up to the command that is asked next, every one can be held and its body's length is counted (Looking).
use Rattle.writer.proofs.Looking.{Looking}
use Rattle.writer.proofs.look_through.Given as goal

abbrev pub invariant-loop-i : goal.invariant-loop-i
invariant-loop-i l = Looking l.policy l.count l.handed l.i l.long
