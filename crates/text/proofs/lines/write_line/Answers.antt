-- Word by word (WordByWord): the answer is a byte, so it has at most three digits.
use native.Mathlib.Omega.{arith}
use Rattle.text.specs.Text.{command_line}
use Rattle.text.proofs.Placed.{puts_name}
use Rattle.text.proofs.WordByWord.{puts_next, puts_end, puts_answer}
use Rattle.text.proofs.lines.write_line.Goals as goal

pub number-requires-3 : goal.number-requires-3
number-requires-3 c = let said = puts_answer c.args.answer 32 c.from.ensures c.ranges.answer.fits c.number-2.ensures in
    omega (arith, said, c.word.ensures, c.number.ensures, c.name_of_command.ensures.short, c.requires)

pub returns : goal.returns
unfolding command_line
returns c = puts_next _ _ _ c.number.ensures
    (puts_next _ _ _ (puts_name 8 _ c.name_of_command.ensures.name c.name_of_command.ensures.short c.word.ensures)
    (puts_next _ _ _ (puts_answer _ _ c.from.ensures c.ranges.answer.fits c.number-2.ensures)
    (puts_end _ c.number-3.ensures)))
