-- What reading a sheet gives, for every byte string: it is good, with its policy and count, or malformed, with the place of its
-- first fault (document 01, "Place of a fault"); the body of an entry is that part of the sheet; an entry is its number and command.
-- Assumes nothing.
use Rattle.std.specs.Prelude.{ℕ, suc, ◌+◌, Bool, ◌&&◌, cond, Option, Some, None, Result, Ok, Err}
use Rattle.std.specs.Prelude.{List, [], leb, length, take, drop}
use Rattle.std.proofs.Math.Option.{Option as Maybe, none, some}
use Rattle.sheets.specs.Bytes.{byte_at}
use Rattle.sheets.specs.Sheets.{bodies_begin}
use Rattle.sheets.specs.Faults.{body_length, count, entry_number, entry_offset, first_fault}
use Rattle.sheets.specs.Calls.{answer_number}
use Rattle.shapes.specs.Commands.{parsed}
use Rattle.shapes.specs.declared.Command.{Command}
use Rattle.shapes.specs.declared.SheetEntry.{SheetEntry}
use Rattle.reader.specs.declared.Header.{Header}
use Rattle.reader.specs.declared.Malformed.{Malformed}

unfoldable pub checked_as : (fault : Maybe ℕ) (policy count : ℕ) → Result Header Malformed
checked_as none policy n = Ok (record { policy = policy; count = n })
checked_as (some place) policy n = Err (record { place = place })

unfoldable pub checked : List ℕ → Result Header Malformed
checked s = checked_as (first_fault s) (byte_at s 0) (count s)

-- this paper's number for each case: 0 with the count, 12 with the place
unfoldable pub checked_number : Result Header Malformed → ℕ
checked_number (Ok header) = answer_number 0 header.count
checked_number (Err fault) = answer_number 12 fault.place

-- is the entry with i entries before it inside, and the body that it names?
unfoldable pub has_entry : List ℕ → ℕ → Bool
has_entry s i = leb (bodies_begin (suc i)) (length s)

unfoldable pub has_body : List ℕ → ℕ → Bool
has_body s i = has_entry s i && leb (entry_offset s i + body_length (entry_number s i)) (length s)

unfoldable pub body_at : List ℕ → ℕ → List ℕ
body_at s i = cond (has_body s i) (take (body_length (entry_number s i)) (drop (entry_offset s i) s)) []

unfoldable pub read_as : (number : ℕ) → Option Command → Option SheetEntry
read_as number (Some command) = Some (record { number = number; command = command })
read_as number None = None

unfoldable pub entry_at : List ℕ → ℕ → Option SheetEntry
entry_at s i = cond (has_body s i) (read_as (entry_number s i) (parsed (entry_number s i) (body_at s i))) None
