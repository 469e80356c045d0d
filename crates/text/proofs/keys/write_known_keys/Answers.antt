-- The count's line, and the keys' lines behind it (WholeText).
use Rattle.text.specs.Text.{word}
use Rattle.text.proofs.WholeText.{puts_known_keys}
use Rattle.text.proofs.keys.write_known_keys.Goals as goal

pub returns : goal.returns
unfolding word
returns c = puts_known_keys _ c.known_count.ensures c.told.ensures c.write_keys.ensures
