-- With i records behind, those are counted (Counts).
use mathlib.Core.Path.{◌≡◌}
use Rattle.text.specs.Printing.{tally_of, as_counts}
use Rattle.text.proofs.counting.tally_of.Given as goal

abbrev pub invariant-loop-i : goal.invariant-loop-i
invariant-loop-i l = l.tally ≡ as_counts (tally_of l.records l.i)
