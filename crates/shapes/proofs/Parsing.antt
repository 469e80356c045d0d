-- What a command number and a body state. Assumes nothing.
use mathlib.Core.Path.{◌≡◌, refl}
use mathlib.Core.Bool.{true, false}
use mathlib.Core.List.{List}
use Prim.Native.Nat.{ℕ, zero, suc, ◌<◌}
use native.Mathlib.Omega.{arith}
use borrow.Author.Tests.{ltb-true, ltb-false, eq-eqb}
use lib.ListN.{length, get_or-eq_default}
use Rattle.std.specs.Prelude.{Some}
use Rattle.sheets.specs.Bytes.{byte_at, two_at}
use Rattle.sheets.specs.Faults.{known_number, body_length, body_lengths}
use Rattle.sheets.specs.Reading.{read_command, readers}
use Rattle.shapes.specs.Commands.{stored_command, parsed_if, no_command, not_a_call, called, parsed}

-- one name for what a command is read by, to compute with
unfoldable pub parsing_opened : Unit {0}
unfolding parsed parsed_if no_command not_a_call called stored_command known_number body_length body_lengths read_command readers byte_at two_at
parsing_opened = tt

-- a known number has a place in the table of lengths
pub known_below : (number : ℕ) → known_number number ≡ true → number < 11
unfolding known_number body_lengths
known_below zero e = omega arith
known_below (suc n) e = omega (arith, ltb-true n 10 e)

-- a number of no command has no body
pub unknown_empty : (number : ℕ) → known_number number ≡ false → body_length number ≡ 0
unfolding known_number body_length body_lengths
unknown_empty zero e = refl
unknown_empty (suc n) e = get_or-eq_default body_lengths 0 (ltb-false n 10 e)

-- a known number and a body of its length state the command that they read as
pub states : (number : ℕ) (body : List ℕ) → known_number number ≡ true → length body ≡ body_length number
    → parsed number body ≡ Some (stored_command (read_command number body))
unfolding parsed parsed_if no_command
states number body e h = simp (e, eq-eqb _ _ h)
