-- `put_three` meets its contract: a byte, and two behind it (Over). Assumes nothing.
use mathlib.Core.Path.{◌∙◌}
use Rattle.writer.proofs.Over.{over_three}
use Rattle.writer.proofs.put.put_three.Goals as goal

pub returns : goal.returns
returns c = over_three _ c.args.number _ _ c.requires c.ranges.number.fits
    (c.copy_from_slice.ensures.after ∙ c.to_be_bytes.ensures)
