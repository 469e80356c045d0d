-- With some entries behind, the lines of their known keys are put (KnownKeyLines).
use Prim.Native.Nat.{◌*◌}
use lib.ListN.{take}
use Rattle.text.specs.Printing.{marked_lines}
use Rattle.text.specs.Writing.{Puts}
use Rattle.text.proofs.keys.write_keys.Given as goal

abbrev pub invariant-loop-entry : goal.invariant-loop-entry
invariant-loop-entry l = Puts (20 * l.entry-index) (marked_lines (take l.entry-index l.entries)) l.initial.page l.page
