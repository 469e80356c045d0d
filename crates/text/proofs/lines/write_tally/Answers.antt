-- Word by word (WordByWord).
use Rattle.text.specs.Text.{word, tally_line}
use Rattle.text.proofs.WordByWord.{puts_told, puts_told_end}
use Rattle.text.proofs.lines.write_tally.Goals as goal

pub returns : goal.returns
unfolding tally_line word
returns c = puts_told _ _ _ _ c.told.ensures (puts_told_end _ _ c.told-2.ensures)
