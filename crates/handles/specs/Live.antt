-- The live handles as four words of 64 bits: handle h is bit h % 64 of word h / 64. Assumes nothing.
use Rattle.std.specs.Prelude.{ℕ, zero, suc, ◌/◌, ◌%◌, ◌^◌, ◌<◌, ◌≡◌, Option, Some, None, Bool, not, cond, List, eqb, length, get_or}
use Rattle.std.proofs.Math.Option.{Option as Found, none, some}
use Rattle.rules.specs.State.{most_handles}
use Rattle.sheets.specs.Faults.{smallest}
use Rattle.shapes.specs.declared.HandleNo.{HandleNo}

unfoldable pub bit : List ℕ → (h : ℕ) → Bool
bit words h = eqb (get_or words (h / 64) 0 / 2 ^ (h % 64) % 2) 1

-- four words, each of 64 bits
pub record Words (words : List ℕ) : Type 0 where
  pub four : length words ≡ 4
  pub fit : (i : ℕ) → i < 4 → get_or words i 0 < 2 ^ 64

unfoldable pub free_of : Found ℕ → Option HandleNo
free_of none = None
free_of (some h) = Some (record { 0 = h })

-- "A new handle takes the lowest number not live"
unfoldable pub free_in : List ℕ → Option HandleNo
free_in words = free_of (smallest (λ h. not (bit words h)) most_handles)

-- how many of the first n handles are live
unfoldable pub count_below : List ℕ → (n : ℕ) → ℕ
count_below words zero = 0
count_below words (suc n) = cond (bit words n) (suc (count_below words n)) (count_below words n)

unfoldable pub count_in : List ℕ → ℕ
count_in words = count_below words most_handles

-- words whose bits are those of `words`, but for bit h
pub record BitSet (words : List ℕ) (h : ℕ) (to : Bool) (result : List ℕ) : Type 0 where
  pub words_again : Words result
  pub bit_set : bit result h ≡ to
  pub others : (i : ℕ) → i < most_handles → (i ≡ h → ⊥) → bit result i ≡ bit words i
