-- The number and the buffer that the C call gives for a reply, worked out by hand from document 01. Rests on the definitions alone.
use Prim.Native.Nat.{ℕ}
use mathlib.Core.Path.{◌≡◌, refl}
use mathlib.Core.List.{List, [], ◌∷◌, map}
use Rattle.sheets.specs.Bytes.{two}
use Rattle.sheets.specs.Reports.{Reply, malformed, reported, records_bytes, keys_bytes, report_bytes}
use Rattle.sheets.specs.Calls.{Called, answer_number, over, report_into, call}
use Rattle.sheets.specs.Hex.{hex}

-- a reply and a buffer; the number given, and the buffer afterwards
pub data Row : Type 0 where
  row : Reply → (buffer : List ℕ) → (number : ℕ) → (afterwards : List ℕ) → Row

-- one command and one key: a report of 4 + 3 + 2 bytes, 0001_0001_050607_0809
unfoldable pub small_reply : Reply
small_reply = reported (record { answer = 0x05; value = 0x0607 } ∷ []) (0x0809 ∷ [])

unfoldable pub rows : List Row
rows =
    -- it fits: 0 · 65,536 + 9, and "further bytes of the buffer stay unwritten"; with not a byte more
    row small_reply (hex 12 0x202122232425262728292A2B) 9 (hex 12 0x0001_0001_050607_0809_292A2B)
    ∷ row small_reply (hex 9 0x202122232425262728) 9 (hex 9 0x0001_0001_050607_0809)
    -- one byte too short, and no buffer: 13 · 65,536, and nothing is written
    ∷ row small_reply (hex 8 0x2021222324252627) 851968 (hex 8 0x2021222324252627)
    ∷ row small_reply [] 851968 []
    -- malformed: 12 · 65,536 + the place, and nothing is written; "12 comes before 13"
    ∷ row (malformed 300) (hex 12 0x202122232425262728292A2B) 786732 (hex 12 0x202122232425262728292A2B)
    ∷ row (malformed 0) [] 786432 []
    ∷ []

unfoldable pub called : Row → Called
called (row reply buffer number afterwards) = call reply buffer

unfoldable pub expected : Row → Called
expected (row reply buffer number afterwards) = record { number = number; buffer = afterwards }

-- all rows at once
pub calls_computed : map called rows ≡ map expected rows
unfolding two records_bytes keys_bytes report_bytes answer_number over report_into call hex small_reply rows called expected
calls_computed = refl
