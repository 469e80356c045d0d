-- A constant table holds what its rule says at each of its places: one test over the whole table, which antt computes. The table of body
-- lengths passes it. Assumes nothing.
use mathlib.Core.Path.{◌≡◌, refl}
use mathlib.Core.Bool.{Bool, true, false, ◌&&◌, false≢true}
use mathlib.Core.List.{List, [], ◌∷◌}
use Prim.Native.Nat.{ℕ, zero, suc, ◌<◌}
use native.Mathlib.Omega.{arith}
use lib.Dec.{eqb}
use lib.ListN.{length, get_or}
use borrow.Author.Tests.{eqb-true}
use Rattle.sheets.specs.Faults.{body_length, body_lengths}

-- the test: each entry is the rule's number at its place
abbrev pub follows : (rule : ℕ → ℕ) → List ℕ → Bool
follows rule [] = true
follows rule (x ∷ table) = eqb x (rule 0) && follows (λ i. rule (suc i)) table

and_left : (a b : Bool) → (a && b) ≡ true → a ≡ true
and_left true b e = refl
and_left false b e = e

and_right : (a b : Bool) → (a && b) ≡ true → b ≡ true
and_right true b e = e
and_right false b e = absurd (false≢true e)

-- a table that passes the test holds the rule's number at each of its places
pub followed : (rule : ℕ → ℕ) (table : List ℕ) → follows rule table ≡ true → (k : ℕ) → k < length table → get_or table k 0 ≡ rule k
followed rule [] e k h = absurd (omega arith)
followed rule (x ∷ table) e zero h = eqb-true x (rule 0) (and_left _ _ e)
followed rule (x ∷ table) e (suc k) h =
    followed (λ i. rule (suc i)) table (and_right (eqb x (rule 0)) _ e) k (omega arith)

-- the lengths of bodies, by command number from 0
abbrev pub lengths : List ℕ
lengths = 0 ∷ 1 ∷ 2 ∷ 4 ∷ 3 ∷ 3 ∷ 1 ∷ 1 ∷ 0 ∷ 0 ∷ 4 ∷ []

-- each is the length of that command's body
pub length_is : (number : ℕ) → number < 11 → get_or lengths number 0 ≡ body_length number
unfolding body_length body_lengths
length_is = followed body_length lengths refl
