-- `Asked::put_bodies` meets its contract. The loop's invariant:
-- the bodies of the commands before the next one stand over the front of the buffer (Copying of Putting).
use Rattle.writer.proofs.Putting.{Copying}
use Rattle.writer.proofs.put.Asked.put_bodies.Given as goal

abbrev pub invariant-loop-i : goal.invariant-loop-i
invariant-loop-i l = Copying l.self.count l.self.handed.now l.initial.out l.i l.at l.out
