-- `Asked::put_contents` meets its contract. The loop's invariant:
-- the entries of the commands before the next one stand over the front of the buffer (Listing of Putting).
use Rattle.writer.proofs.Putting.{Listing}
use Rattle.writer.proofs.put.Asked.put_contents.Given as goal

abbrev pub invariant-loop-i : goal.invariant-loop-i
invariant-loop-i l = Listing l.self.count l.self.handed.now l.initial.out l.i l.offset l.out
