-- What the writer's own parts ask and answer. `write` is held to specs/Writer.antt alone, so a reader who believes that file need
-- not believe this one. Assumes nothing.
use Rattle.std.specs.Prelude.{ℕ, suc, ◌*◌, ◌≤◌, ◌<◌, ◌≡◌, true, Option, MatchOption, Result, Ok, Err, List, length}
use Rattle.std.proofs.Math.Option.{Option as Maybe, none, some}
use Rattle.sheets.specs.Sheets.{most_commands}
use Rattle.sheets.specs.Faults.{known_number, body_length}
use Rattle.writer.specs.declared.records.Handed.{Handed}
use Rattle.shapes.specs.declared.CallError.{CallError}
use Rattle.shapes.specs.declared.CallError.TheVariants.{Malformed}
use Rattle.writer.specs.Writer.{record_length, handed_number, handed_length, handed_body, unholdable}

-- what is found, by the place of what no sheet can hold and the sheet's length
unfoldable pub found_as : (fault : Maybe ℕ) (long : ℕ) → Result ℕ CallError
found_as none long = Ok long
found_as (some place) long = Err (Malformed place)

-- the command with i commands before it is wholly there, with a known number and a body of that command's length
pub record Held (handed : List ℕ) (i : ℕ) : Type 0 where
  pub whole : record_length * suc i ≤ length handed
  pub known : known_number (handed_number handed i) ≡ true
  pub its_length : handed_length handed i ≡ body_length (handed_number handed i)

-- n commands that a sheet can hold
pub record AllHeld (n : ℕ) (handed : List ℕ) : Type 0 where
  pub few : n ≤ most_commands
  pub each : (i : ℕ) → i < n → Held handed i

-- the command with i commands before it is handed over as its number and its body, or is one that no sheet can hold, whatever the
-- policy and the count
abbrev pub CommandAt : (handed : List ℕ) (i : ℕ) → Option Handed → Type 0
CommandAt handed i r =
    MatchOption r ((policy n : ℕ) → unholdable policy n handed (suc i) ≡ true)
    (λ command. Held handed i × (command.number ≡ handed_number handed i) × (command.body.now ≡ handed_body handed i))
