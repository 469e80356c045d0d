-- `handles::set` sets or clears a handle's bit, and no other. Rests on the laws of the words.
use native.Mathlib.Omega.{arith}
use Rattle.handles.proofs.LiveWordsCode.{array_words, bit_on, bit_off}
use Rattle.handles.proofs.set.Goals as goal

pub returns-then-to : goal.returns-then-to
returns-then-to c =
    rw (c.from-word.ensures, c.if-to.true) (bit_on c.args.live c.args.h.0 (array_words _ _ c.well_formed.0) (omega arith))

pub returns-else-to : goal.returns-else-to
returns-else-to c =
    rw (c.from-word.ensures, c.if-to.false) (bit_off c.args.live c.args.h.0 (array_words _ _ c.well_formed.0) (omega arith))
