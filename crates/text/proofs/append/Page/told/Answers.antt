-- The number is put behind the word and its blank (Placed).
use native.Mathlib.Omega.{arith}
use Prim.Native.Nat.{◌+◌}
use lib.ListN.{length}
use Rattle.text.proofs.Placed.{puts_then, puts_at_most}
use Rattle.text.proofs.append.Page.told.Goals as goal

pub returns : goal.returns
returns c = puts_at_most (length c.args.word.now + 7) (omega arith) (puts_then c.word.ensures c.number.ensures)
