-- Document 01, "Place of a fault": "0 if the sheet has under 3 bytes, policy above 2, n above 4,096 or a table not wholly
-- inside; i (from 1) for entry i if its number is not 1 to 10, its offset is not where the bodies before it end, or its body
-- passes the end; n + 1 if bytes follow the last body. The smallest place is named." Assumes nothing.
use Rattle.std.specs.Prelude.{ℕ, zero, suc, ◌+◌, ◌*◌, Bool, false, not, ◌||◌, cond, List, [], ◌∷◌, ltb, eqb, length, get_or}
use Rattle.std.proofs.Math.Option.{Option, none, some}
use Rattle.sheets.specs.Bytes.{byte_at, two_at}
use Rattle.sheets.specs.Sheets.{most_commands, header_length, entry_length, bodies_begin}

-- the length of a body by command number, from 1 to 10
unfoldable pub body_lengths : List ℕ
body_lengths = 1 ∷ 2 ∷ 4 ∷ 3 ∷ 3 ∷ 1 ∷ 1 ∷ 0 ∷ 0 ∷ 4 ∷ []

unfoldable pub known_number : ℕ → Bool
known_number zero = false
known_number (suc n) = ltb n (length body_lengths)

unfoldable pub body_length : ℕ → ℕ
body_length zero = 0
body_length (suc n) = get_or body_lengths n 0

-- what stands in the sheet: its count; and of the entry with i entries before it, the command number and the offset
unfoldable pub count : List ℕ → ℕ
count s = two_at s 1

unfoldable pub entry_number : List ℕ → ℕ → ℕ
entry_number s i = byte_at s (header_length + entry_length * i)

unfoldable pub entry_offset : List ℕ → ℕ → ℕ
entry_offset s i = two_at s (header_length + entry_length * i + 1)

-- where the first i bodies end
unfoldable pub bodies_end : List ℕ → ℕ → ℕ
bodies_end s zero = bodies_begin (count s)
bodies_end s (suc i) = bodies_end s i + body_length (entry_number s i)

unfoldable pub header_fault : List ℕ → Bool
header_fault s =
    ltb (length s) header_length || ltb 2 (byte_at s 0) || ltb most_commands (count s) || ltb (length s) (bodies_begin (count s))

unfoldable pub entry_fault : List ℕ → ℕ → Bool
entry_fault s i =
    not (known_number (entry_number s i)) || not (eqb (entry_offset s i) (bodies_end s i)) || ltb (length s) (bodies_end s (suc i))

unfoldable pub bytes_follow : List ℕ → Bool
bytes_follow s = ltb (bodies_end s (count s)) (length s)

-- is there a fault at this place?
unfoldable pub fault_at : List ℕ → (place : ℕ) → Bool
fault_at s zero = header_fault s
fault_at s (suc i) = cond (ltb i (count s)) (entry_fault s i) (bytes_follow s)

-- the smallest number below n that passes a test
unfoldable pub or_else : Option ℕ → Option ℕ → Option ℕ
or_else none b = b
or_else (some i) b = some i

unfoldable pub smallest : (ℕ → Bool) → (n : ℕ) → Option ℕ
smallest test zero = none
smallest test (suc n) = or_else (smallest test n) (cond (test n) (some n) none)

-- the places are 0 to n + 1
unfoldable pub first_fault : List ℕ → Option ℕ
first_fault s = smallest (fault_at s) (count s + 2)
