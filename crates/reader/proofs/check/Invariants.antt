-- `check` meets its contract. The loop's invariant: no fault so far, and the bodies so far end at `end` (Walked of Checking).
use Rattle.reader.proofs.Checking.{Walked}
use Rattle.reader.proofs.check.Given as goal

abbrev pub invariant-loop-i : goal.invariant-loop-i
invariant-loop-i l = Walked l.sheet l.i l.end
