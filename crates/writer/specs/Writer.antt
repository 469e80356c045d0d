-- Document 01: "The writer answers 12 at place 0 for policy or count, at i for a command i that no sheet can hold, then 13; a refusal
-- writes nothing." Commands are handed over as records of six bytes, one behind the other: the command number, the length of the
-- body, and four bytes of which so many are the body. Assumes nothing.
use Rattle.std.specs.Prelude.{ℕ, zero, suc, ◌+◌, ◌*◌, Bool, true, false, not, ◌||◌, Result, Ok, Err}
use Rattle.std.specs.Prelude.{List, [], ◌∷◌, ◌++◌, leb, ltb, eqb, length, take, drop}
use Rattle.std.proofs.Math.Option.{Option, none, some}
use Rattle.rules.specs.Commands.{Command}
use Rattle.sheets.specs.Bytes.{byte_at}
use Rattle.sheets.specs.Sheets.{most_commands, sheet_bytes}
use Rattle.sheets.specs.Faults.{known_number, body_length, smallest}
use Rattle.sheets.specs.Calls.{answer_number, over}
use Rattle.sheets.specs.Reading.{read_command, read_policy}
use Rattle.shapes.specs.declared.CallError.{CallError}
use Rattle.shapes.specs.declared.CallError.TheVariants.{Malformed, Short}

abbrev pub record_length : ℕ
record_length = 6

-- the record with i records before it
unfoldable pub handed_number : List ℕ → ℕ → ℕ
handed_number handed i = byte_at handed (record_length * i)

unfoldable pub handed_length : List ℕ → ℕ → ℕ
handed_length handed i = byte_at handed (record_length * i + 1)

unfoldable pub handed_body : List ℕ → ℕ → List ℕ
handed_body handed i = take (handed_length handed i) (drop (record_length * i + 2) handed)

-- the first n commands that are handed over
unfoldable pub handed_commands : List ℕ → (n : ℕ) → List Command
handed_commands handed zero = []
handed_commands handed (suc n) = handed_commands handed n ++ read_command (handed_number handed n) (handed_body handed n) ∷ []

-- can no sheet hold this: 0 for policy and count; i, from 1, for command i, which is not wholly there, has an unknown number, or a
-- body that is not of that command's length
unfoldable pub unholdable : (policy n : ℕ) (handed : List ℕ) (place : ℕ) → Bool
unholdable policy n handed zero = ltb 2 policy || ltb most_commands n
unholdable policy n handed (suc i) =
    ltb (length handed) (record_length * suc i) || not (known_number (handed_number handed i))
    || not (eqb (handed_length handed i) (body_length (handed_number handed i)))

unfoldable pub first_unholdable : (policy n : ℕ) (handed : List ℕ) → Option ℕ
first_unholdable policy n handed = smallest (unholdable policy n handed) (suc n)

-- the sheet that is asked for
unfoldable pub asked_sheet : (policy n : ℕ) (handed : List ℕ) → List ℕ
asked_sheet policy n handed = sheet_bytes (read_policy policy) (handed_commands handed n)

-- what is answered, and what the buffer holds afterwards
pub record Wrote : Type 0 where
  pub answer : Result ℕ CallError
  pub buffer : List ℕ

unfoldable pub sheet_into : (fits : Bool) (sheet buffer : List ℕ) → Wrote
sheet_into true sheet buffer = record { answer = Ok (length sheet); buffer = over sheet buffer }
sheet_into false sheet buffer = record { answer = Err Short; buffer = buffer }

unfoldable pub wrote_as : (fault : Option ℕ) (sheet buffer : List ℕ) → Wrote
wrote_as none sheet buffer = sheet_into (leb (length sheet) (length buffer)) sheet buffer
wrote_as (some place) sheet buffer = record { answer = Err (Malformed place); buffer = buffer }

unfoldable pub wrote : (policy n : ℕ) (handed buffer : List ℕ) → Wrote
wrote policy n handed buffer = wrote_as (first_unholdable policy n handed) (asked_sheet policy n handed) buffer

-- this paper's number for each case
unfoldable pub written_number : Result ℕ CallError → ℕ
written_number (Ok long) = answer_number 0 long
written_number (Err (Malformed place)) = answer_number 12 place
written_number (Err Short) = answer_number 13 0
