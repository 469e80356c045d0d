-- What the reader's own parts answer: the header, and a row of the table of contents. `check`, `body` and `entry` are held to
-- specs/Reader.antt alone, so a reader who believes that file need not believe this one. Assumes nothing.
use Rattle.std.specs.Prelude.{ℕ, ◌+◌, Bool, true, false, not, ◌||◌, ltb, eqb, ◌≡◌, Option, Result, MatchOption, MatchResult, List}
use Rattle.sheets.specs.Bytes.{byte_at}
use Rattle.sheets.specs.Faults.{known_number, body_length, count, entry_number, entry_offset, header_fault}
use Rattle.reader.specs.declared.Header.{Header}
use Rattle.reader.specs.declared.Malformed.{Malformed}
use Rattle.reader.specs.declared.table.Row.{Row}
use Rattle.reader.specs.Reader.{has_body}

abbrev pub header_of : List ℕ → Header
header_of s = record { policy = byte_at s 0; count = count s }

-- the header, where there is no fault at place 0
abbrev pub HeaderOf : List ℕ → Result Header Malformed → Type 0
HeaderOf s r =
    MatchResult r
    (λ header. (header_fault s ≡ false) × (header ≡ header_of s))
    (λ fault. (header_fault s ≡ true) × (fault ≡ record { place = 0 }))

abbrev pub row_of : List ℕ → ℕ → Row
row_of s i = record { number = entry_number s i; offset = entry_offset s i }

-- has an entry of this row a fault, where the bodies before it end at `end`, in a sheet of this size?
abbrev pub faulty : Row → (end size : ℕ) → Bool
faulty row end size =
    not (known_number row.number) || not (eqb row.offset end) || ltb size (end + body_length row.number)

-- the row of the entry with i entries before it, where it is inside, and the body that it names
abbrev pub RowInside : List ℕ → ℕ → Option Row → Type 0
RowInside s i r = MatchOption r (has_body s i ≡ false) (λ row. (has_body s i ≡ true) × (row ≡ row_of s i))
