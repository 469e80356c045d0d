-- Document 01, "Sheet and report": "The C call takes the sheet and the buffer and gives one number: the answer times 65,536, plus
-- the report length for 0, the place for 12, nothing for 13." "12 comes before 13; both write nothing"; "further bytes of the
-- buffer stay unwritten". Assumes nothing.
use Rattle.std.specs.Prelude.{ℕ, ◌+◌, ◌*◌, Bool, true, false, List, ◌++◌, leb, length, drop}
use Rattle.sheets.specs.Reports.{Reply, malformed, reported, report_bytes}

-- the number given, and what the buffer holds afterwards
pub record Called : Type 0 where
  pub number : ℕ
  pub buffer : List ℕ

unfoldable pub answer_number : (answer rest : ℕ) → ℕ
answer_number answer rest = answer * 65536 + rest

-- bytes written over the front of a buffer
unfoldable pub over : (bytes buffer : List ℕ) → List ℕ
over bytes buffer = bytes ++ drop (length bytes) buffer

-- a report into a buffer in which it fits, or not
unfoldable pub report_into : (fits : Bool) (report buffer : List ℕ) → Called
report_into true report buffer = record { number = answer_number 0 (length report); buffer = over report buffer }
report_into false report buffer = record { number = answer_number 13 0; buffer = buffer }

unfoldable pub call : Reply → (buffer : List ℕ) → Called
call (malformed place) buffer = record { number = answer_number 12 place; buffer = buffer }
call (reported said known) buffer =
    report_into (leb (length (report_bytes said known)) (length buffer)) (report_bytes said known) buffer
