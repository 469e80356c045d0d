-- A command by its number and its body's bytes, as a direct call and the writer are handed it. Assumes nothing.
use Rattle.std.specs.Prelude.{ℕ, ◌≡◌, List}
use Rattle.rules.specs.Commands.{Command, number}
use Rattle.sheets.specs.Sheets.{body_bytes, Holdable}

-- c is the command with this number and this body
pub record CommandOf (n : ℕ) (bytes : List ℕ) (c : Command) : Type 0 where
  pub its_number : number c ≡ n
  pub its_body : body_bytes c ≡ bytes
  pub holdable : Holdable c
