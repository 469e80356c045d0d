-- What is said to a command, as document 01's table has it: 0 and a value, or a refusal's number and value 0. Assumes nothing.
use Rattle.std.specs.Prelude.{ℕ, Result, Ok, Err}
use Rattle.deciding.specs.declared.Refusal.{Refusal}
use Rattle.deciding.specs.Decisions.{number}

abbrev pub answer_of : Result ℕ Refusal → ℕ
answer_of (Ok value) = 0
answer_of (Err refusal) = number refusal

abbrev pub value_of : Result ℕ Refusal → ℕ
value_of (Ok value) = value
value_of (Err refusal) = 0
