-- Laws of lists that every other proof uses: of tests over a list, of membership, and of the place at which a thing stands.
-- Rests on specs/Lists.antt (and `is_in` of specs/Following.antt) and on the list libraries.
use Prim.Native.Nat.{ℕ, zero, suc, ◌<◌, zero-le, suc-le-suc}
use native.Mathlib.Nat.{not-suc-le-zero, le_of_suc-le-suc}
use native.Mathlib.Omega.{arith}
use mathlib.Core.Bool.{Bool, true, false, ◌||◌, true≢false, false≢true}
use mathlib.Core.List.Memᴰ
use mathlib.Core.List.{List, [], ◌∷◌, ◌++◌}
use mathlib.Core.Logic.{◌⊎◌, inl, inr, ⊎_elim}
use mathlib.Core.Option.{none, some}
use mathlib.Core.Path.{◌≡◌, refl, sym, ap, ◌∙◌}
use borrow.Author.Tests.{eqb-true, eq-eqb}
use lib.Dec.{eqb}
use lib.ListN.{length, get_or, get_elem?, set}
use Rattle.terms.specs.Lists.{◌∈◌, some_of, is_in}

infix 40 ◌⊆◌
-- everything in the first list is in the second
abbrev pub ◌⊆◌ : {A : Type 0} → List A → List A → Type 0
◌⊆◌ {A} l r = (x : A) → x ∈ l → x ∈ r

-- a test either holds or fails, and each case has the equation
pub bool_cases {ℓ} : {C : Type ℓ} (b : Bool) → (b ≡ true → C) → (b ≡ false → C) → C
bool_cases true yes_case no_case = yes_case refl
bool_cases false yes_case no_case = no_case refl

-- one of two tests holds: the first, or the second
or_cases : (a b : Bool) → (a || b) ≡ true → (a ≡ true) ⊎ (b ≡ true)
or_cases true b e = inl refl
or_cases false b e = inr e

or_right : (a b : Bool) → b ≡ true → (a || b) ≡ true
or_right true b e = refl
or_right false b e = e

module _ {A : Type 0} where
  -- where a test holds of some of the list, it holds of something in the list
  pub some_of_true : (t : A → Bool) (l : List A) → some_of t l ≡ true → (x : A) × (x ∈ l) × (t x ≡ true)
  unfolding some_of
  some_of_true t [] e = absurd (false≢true e)
  some_of_true t (y ∷ l) e = go (or_cases (t y) (some_of t l) e) (some_of_true t l)
    where
      go : (t y ≡ true) ⊎ (some_of t l ≡ true) → (some_of t l ≡ true → (x : A) × (x ∈ l) × (t x ≡ true)) →
          (x : A) × (x ∈ (y ∷ l)) × (t x ≡ true)
      go (inl h) ih = (y, Memᴰ.head refl, h)
      go (inr h) ih = let r : (x : A) × (x ∈ l) × (t x ≡ true) = ih h in (r.0, Memᴰ.tail r.1, r.2)

  -- where a test holds of something in the list, it holds of some of the list
  pub some_of_in : (t : A → Bool) {x : A} {l : List A} → x ∈ l → t x ≡ true → some_of t l ≡ true
  unfolding some_of
  some_of_in t (Memᴰ.head {x = y} q) e = let h : t y ≡ true = ap t (sym q) ∙ e in rw h
  some_of_in t (Memᴰ.tail {x = y} {xs = l} m) e = or_right (t y) (some_of t l) (some_of_in t m e)

  -- where a test holds of none of the list, it fails of each thing in the list
  pub some_of_false : (t : A → Bool) {x : A} {l : List A} → some_of t l ≡ false → x ∈ l → t x ≡ false
  some_of_false t {x} e m = bool_cases (t x) (λ h. absurd (true≢false (sym (some_of_in t m h) ∙ e))) (λ h. h)

  -- nothing stands past the end
  none_at : {x : A} → none ≡ some x → ⊥
  none_at e = let z : ◌≡◌ {A = ℕ} 0 1 = cc in omega arith

  -- what stands at a place is in the list
  pub at_in : {x : A} (l : List A) (n : ℕ) → get_elem? l n ≡ some x → x ∈ l
  at_in [] n e = absurd (none_at e)
  at_in (y ∷ l) zero e = Memᴰ.head {x = y} (cc)
  at_in (y ∷ l) (suc n) e = Memᴰ.tail (at_in l n e)

  -- what stands at a place stands at a place below the length
  pub at_below : {x : A} (l : List A) (n : ℕ) → get_elem? l n ≡ some x → n < length l
  at_below [] n e = absurd (none_at e)
  at_below (y ∷ l) zero e = suc-le-suc zero-le
  at_below (y ∷ l) (suc n) e = suc-le-suc (at_below l n e)

  -- something stands at each place below the length
  pub below_at : (l : List A) (n : ℕ) → n < length l → (x : A) × (get_elem? l n ≡ some x)
  below_at [] n h = absurd (not-suc-le-zero h)
  below_at (y ∷ l) zero h = (y, refl)
  below_at (y ∷ l) (suc n) h = below_at l n (le_of_suc-le-suc h)

  -- what is in the list stands at some place below its length
  pub in_at : {x : A} {l : List A} → x ∈ l → (n : ℕ) × (get_elem? l n ≡ some x) × (n < length l)
  in_at (Memᴰ.head q) = (0, cc, suc-le-suc zero-le)
  in_at (Memᴰ.tail m) = let r = in_at m in (suc r.0, r.1, suc-le-suc r.2)

  -- what stands at a place is what is read there, whatever is read past the end
  pub at_get_d : {x : A} (l : List A) (n : ℕ) (d : A) → get_elem? l n ≡ some x → get_or l n d ≡ x
  at_get_d [] n d e = cc
  at_get_d (y ∷ l) zero d e = cc
  at_get_d (y ∷ l) (suc n) d e = at_get_d l n d e

  -- what is in a list with one place overwritten is what was written, or was in the list
  pub in_set : {x : A} (l : List A) (n : ℕ) (y : A) → x ∈ set l n y → (x ≡ y) ⊎ (x ∈ l)
  in_set [] n y m = inr m
  in_set (z ∷ l) zero y (Memᴰ.head q) = inl q
  in_set (z ∷ l) zero y (Memᴰ.tail m) = inr (Memᴰ.tail m)
  in_set (z ∷ l) (suc n) y (Memᴰ.head q) = inr (Memᴰ.head q)
  in_set (z ∷ l) (suc n) y (Memᴰ.tail m) = ⊎_elim inl (λ h. inr (Memᴰ.tail h)) (in_set l n y m)

  -- what holds of all in a list, and of what is written over one place, holds of all in the new list
  pub all_set : (P : A → Type 0) {l : List A} (n : ℕ) (y : A) → ((x : A) → x ∈ l → P x) → P y → (x : A) → x ∈ set l n y → P x
  all_set P {l} n y all new x m = ⊎_elim (λ (e : x ≡ y). rw e new) (all x) (in_set l n y m)

  -- what stands at a place stands there still when more is appended
  pub at_append : {x : A} (l r : List A) (n : ℕ) → get_elem? l n ≡ some x → get_elem? (l ++ r) n ≡ some x
  at_append [] r n e = cc
  at_append (y ∷ l) r zero e = e
  at_append (y ∷ l) r (suc n) e = at_append l r n e

  -- what is put at the end of a list stands there
  pub at_end : (l : List A) (x : A) → get_elem? (l ++ x ∷ []) (length l) ≡ some x
  at_end [] x = refl
  at_end (y ∷ l) x = at_end l x

  -- what stands in a list with one thing put behind it stands in the list, or is that thing, at the end
  pub at_snoc : {x : A} (l : List A) (y : A) (i : ℕ) → get_elem? (l ++ y ∷ []) i ≡ some x →
      (get_elem? l i ≡ some x) ⊎ ((i ≡ length l) × (x ≡ y))
  at_snoc [] y zero e = inr (refl, cc)
  at_snoc [] y (suc i) e = inl e
  at_snoc (z ∷ l) y zero e = inl e
  at_snoc (z ∷ l) y (suc i) e = ⊎_elim inl (λ r. inr (ap suc r.0, r.1)) (at_snoc l y i e)

-- a number that is found in a list of numbers is in it
pub is_in_true : (k : ℕ) (l : List ℕ) → is_in k l ≡ true → k ∈ l
unfolding is_in
is_in_true k l e = let r = some_of_true (eqb k) l e in Memᴰ.cast (eqb-true k r.0 r.2) r.1

-- a number that is in a list of numbers is found
pub in_is_in : {k : ℕ} {l : List ℕ} → k ∈ l → is_in k l ≡ true
unfolding is_in
in_is_in {k} m = some_of_in (eqb k) m (eq-eqb k k refl)
