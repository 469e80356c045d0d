-- With i lines behind, those are put (CommandLines).
use Prim.Native.Nat.{◌*◌}
use Rattle.text.specs.Printing.{entry_lines}
use Rattle.text.specs.Writing.{Puts}
use Rattle.text.proofs.lines.write_lines.Given as goal

abbrev pub invariant-loop-i : goal.invariant-loop-i
invariant-loop-i l = Puts (25 * l.i) (entry_lines l.sheet l.records l.i) l.initial.page l.page
