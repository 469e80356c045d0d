-- The parts are put one behind the other, from the buffer's front on (WholeText).
use mathlib.Core.Path.{refl}
use Rattle.text.proofs.WholeText.{puts_run}
use Rattle.text.proofs.write_run.Goals as goal

pub returns : goal.returns
returns c = puts_run _ _ _ _ _ c.requires.0 refl c.write_first.ensures c.write_lines.ensures c.tally_of.ensures c.write_tally.ensures
    c.write_known_keys.ensures
