-- Word by word (WordByWord).
use Rattle.text.specs.Text.{word, first_line}
use Rattle.text.proofs.Placed.{puts_name}
use Rattle.text.proofs.WordByWord.{puts_next, puts_told_end}
use Rattle.text.proofs.lines.write_first.Goals as goal

pub returns : goal.returns
unfolding first_line word
returns c = puts_next _ _ _ c.word.ensures
    (puts_next _ _ _ (puts_name 5 _ c.name_of_policy.ensures.name c.name_of_policy.ensures.short c.word-2.ensures)
    (puts_told_end _ _ c.told.ensures))
