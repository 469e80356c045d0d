-- The byte is put behind the word (Placed).
use Rattle.text.proofs.Placed.{puts_then}
use Rattle.text.proofs.append.Page.word.Goals as goal

pub returns : goal.returns
returns c = puts_then c.bytes.ensures c.byte.ensures
