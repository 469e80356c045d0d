-- The bytes are copied over the part of the buffer that they fill (Placed).
use mathlib.Core.Path.{refl}
use Rattle.text.proofs.Placed.{puts, wrote_copied}
use Rattle.text.proofs.append.Page.bytes.Goals as goal

pub returns : goal.returns
returns c = puts refl (wrote_copied _ _ _ _ c.copy_from_slice.ensures.after c.requires)
