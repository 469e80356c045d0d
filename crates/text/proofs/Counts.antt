-- The tally of records: one more answer, by the code's test; and that a tally of so many records counts so many. Rests on the
-- definitions alone.
use Prim.Native.Nat.{ℕ, zero, suc, ◌+◌, ◌*◌}
use native.Mathlib.Omega.{arith}
use native.Mathlib.Numerals.{add-one}
use mathlib.Core.Path.{◌≡◌, refl, ap, ◌∙◌}
use mathlib.Core.List.{List}
use lib.ListN.{get_or}
use Rattle.sheets.specs.Bytes.{byte_at}
use Rattle.sheets.specs.Reports.{Tally, count_one}
use Rattle.text.specs.Printing.{tally_of}

-- the first n records are n answers
count_size : (answer : ℕ) (t : Tally) → (count_one answer t).done + (count_one answer t).refused ≡ suc (t.done + t.refused)
unfolding count_one
count_size zero t = omega arith
count_size (suc n) t = omega arith

pub tally_size : (records : List ℕ) (n : ℕ) → (tally_of records n).done + (tally_of records n).refused ≡ n
unfolding tally_of
tally_size records zero = refl
tally_size records (suc n) = count_size (byte_at records (3 * n)) (tally_of records n) ∙ ap suc (tally_size records n)

-- one record more
pub tallied_next : (records : List ℕ) (i : ℕ) → tally_of records (i + 1) ≡ count_one (get_or records (3 * i) 0) (tally_of records i)
unfolding tally_of byte_at
tallied_next records i = rw add-one refl
