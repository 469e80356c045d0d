-- The C call: which number each reply gives, and which bytes of the buffer change. Rests on specs/Calls.antt.
use Prim.Native.Nat.{ℕ, ◌≤◌, ◌<◌}
use native.Mathlib.Omega.{arith}
use mathlib.Core.Path.{◌≡◌, refl}
use mathlib.Core.Bool.{Bool, true, false}
use mathlib.Core.List.{List}
use lib.ListN.{length, take, drop, length-append, length-drop}
use lib.Seq.{take-append_seam, drop-append_seam}
use borrow.Author.Tests.{leb-true, le-leb, lt-leb}
use Rattle.rules.specs.Runs.{Answer}
use Rattle.sheets.specs.Reports.{Reply, malformed, reported, report_bytes}
use Rattle.sheets.specs.Calls.{answer_number, over, report_into, call}

-- bytes written over the front of a buffer that has room for them: its length stays, they stand at the front, the rest stays
pub over_length : (bytes buffer : List ℕ) → length bytes ≤ length buffer → length (over bytes buffer) ≡ length buffer
unfolding over
over_length bytes buffer h = simp (length-append, length-drop) (omega arith)

pub over_front : (bytes buffer : List ℕ) → take (length bytes) (over bytes buffer) ≡ bytes
unfolding over
over_front bytes buffer = take-append_seam bytes (drop (length bytes) buffer)

pub over_behind : (bytes buffer : List ℕ) → drop (length bytes) (over bytes buffer) ≡ drop (length bytes) buffer
unfolding over
over_behind bytes buffer = drop-append_seam bytes (drop (length bytes) buffer)

-- a report that fits is written and answered 0 with its length
pub call_fits : (said : List Answer) (known buffer : List ℕ) → length (report_bytes said known) ≤ length buffer
    → call (reported said known) buffer
    ≡ record { number = answer_number 0 (length (report_bytes said known)); buffer = over (report_bytes said known) buffer }
unfolding call report_into
call_fits said known buffer h = rw (le-leb _ _ h)

-- one that does not is answered 13, and nothing is written
pub call_short : (said : List Answer) (known buffer : List ℕ) → length buffer < length (report_bytes said known)
    → call (reported said known) buffer ≡ record { number = answer_number 13 0; buffer = buffer }
unfolding call report_into
call_short said known buffer h = rw (lt-leb _ _ h)

-- a malformed sheet is answered 12 with the place, and nothing is written
pub call_malformed : (place : ℕ) (buffer : List ℕ)
    → call (malformed place) buffer ≡ record { number = answer_number 12 place; buffer = buffer }
unfolding call
call_malformed place buffer = refl

into_length : (fits : Bool) (report buffer : List ℕ) → (fits ≡ true → length report ≤ length buffer)
    → length (report_into fits report buffer).buffer ≡ length buffer
unfolding report_into
into_length true report buffer h = over_length report buffer (h refl)
into_length false report buffer h = refl

into_behind : (fits : Bool) (report buffer : List ℕ)
    → drop (length report) (report_into fits report buffer).buffer ≡ drop (length report) buffer
unfolding report_into
into_behind true report buffer = over_behind report buffer
into_behind false report buffer = refl

-- the buffer's length never changes
pub call_length : (r : Reply) (buffer : List ℕ) → length (call r buffer).buffer ≡ length buffer
unfolding call
call_length (malformed place) buffer = refl
call_length (reported said known) buffer = into_length _ (report_bytes said known) buffer (leb-true _ _)

-- the bytes behind the report stay
pub call_behind : (said : List Answer) (known buffer : List ℕ)
    → drop (length (report_bytes said known)) (call (reported said known) buffer).buffer
    ≡ drop (length (report_bytes said known)) buffer
unfolding call
call_behind said known buffer = into_behind _ (report_bytes said known) buffer

-- the number given tells the answer and what stands with it
pub number_tells : (a b rest rest' : ℕ) → rest < 65536 → rest' < 65536
    → answer_number a rest ≡ answer_number b rest' → (a ≡ b) × (rest ≡ rest')
unfolding answer_number
number_tells a b rest rest' h h' e = omega arith
