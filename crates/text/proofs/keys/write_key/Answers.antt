-- Word by word (WordByWord).
use Rattle.text.specs.Text.{word, key_line}
use Rattle.text.proofs.Placed.{puts_name}
use Rattle.text.proofs.WordByWord.{puts_told, puts_end}
use Rattle.text.proofs.keys.write_key.Goals as goal

pub returns : goal.returns
unfolding key_line word
returns c = puts_told _ _ _ _ c.told.ensures
    (puts_end _ (puts_name 9 _ c.name_of_origin.ensures.name c.name_of_origin.ensures.short c.word.ensures))
