-- `handles::is_live` reads a handle's bit. Rests on the laws of the words.
use Rattle.handles.proofs.LiveWordsCode.{bit_read}
use Rattle.handles.proofs.is_live.Goals as goal

pub returns : goal.returns
returns c = rw c.from.ensures (bit_read c.args.live c.args.h.0)
