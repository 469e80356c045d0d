-- A report with another number in every part, its bytes worked out by hand from document 01; and a tally of two different counts. The
-- theorems on all reports would carry another order of the parts along: here it is told. Rests on the definitions alone.
use Prim.Native.Nat.{ℕ}
use mathlib.Core.Path.{◌≡◌, refl}
use mathlib.Core.List.{[], ◌∷◌}
use lib.ListN.{replicate, take}
use Rattle.rules.specs.Runs.{Answer}
use Rattle.sheets.specs.Bytes.{two}
use Rattle.sheets.specs.Reports.{records_bytes, keys_bytes, report_bytes, count_one, tally}
use Rattle.sheets.specs.Hex.{hex}

abbrev says : (answer value : ℕ) → Answer
says answer value = record { answer = answer; value = value }

-- three commands and two keys: "n, then m, two bytes each; n records of three bytes (answer, two-byte value); then the m known keys'
-- numbers, two bytes each, ascending"
pub report_written :
    report_bytes (says 0x05 0x0607 ∷ says 0x08 0x090A ∷ says 0x0B 0x0C0D ∷ []) (0x0E0F ∷ 0x1011 ∷ [])
    ≡ hex 17 0x0003_0002_050607_08090A_0B0C0D_0E0F_1011
unfolding two records_bytes keys_bytes report_bytes hex
report_written = refl

-- the counts in their two bytes
pub counts_written : take 4 (report_bytes (replicate 0x0304 (says 0 0)) (replicate 0x0506 0)) ≡ hex 4 0x0304_0506
unfolding two report_bytes hex
counts_written = refl

-- "the tally counts commands answered 0 and the others": three and two
pub tallied : tally (says 0 1 ∷ says 5 0 ∷ says 0 2 ∷ says 3 0 ∷ says 0 0 ∷ []) ≡ record { done = 3; refused = 2 }
unfolding count_one tally
tallied = refl
