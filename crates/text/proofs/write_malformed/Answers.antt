-- The words, and the place (WholeText).
use mathlib.Core.Path.{refl}
use Rattle.text.specs.Text.{word}
use Rattle.text.proofs.WholeText.{puts_refused}
use Rattle.text.proofs.write_malformed.Goals as goal

pub returns : goal.returns
unfolding word
returns c = puts_refused _ refl c.told.ensures
