-- At most five digits are put, as std prints them, and one byte behind them (Decimals).
use mathlib.Core.Path.{◌∙◌}
use Rattle.text.proofs.Decimals.{decimal_printed}
use Rattle.text.proofs.Placed.{puts_name}
use Rattle.text.proofs.append.Page.number.Goals as goal

pub returns : goal.returns
returns c = puts_name 5 _ (c.as_bytes.ensures.value ∙ c.format.ensures.text ∙ decimal_printed _ c.ranges.x.fits) (rw c.as_bytes.ensures.len c.format.ensures.fits) c.word.ensures
