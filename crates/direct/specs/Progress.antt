-- How far the input is read, and how much is answered. A call takes two bytes at least and answers three, so that what is answered is at
-- most half as long again as what is read. Assumes nothing.
use Rattle.std.specs.Prelude.{ℕ, ◌+◌, ◌*◌, ◌≤◌}

-- behind what is answered there is room for all that so much input can ask for
abbrev pub Room : (input answered : ℕ) → Type 0
Room input answered = 2 * answered + 3 * input ≤ 2 * 98304

-- so much of the input is left, and so much is answered, where there was so much input and so much had been answered before
abbrev pub Underway : (input before left after : ℕ) → Type 0
Underway input before left after = (left ≤ input) × (2 * after + 3 * left ≤ 2 * before + 3 * input)
