-- The place that is named for a malformed sheet is the smallest at which there is a fault. Rests on specs/Faults.antt.
use Prim.Native.Nat.{ℕ, zero, suc, ◌+◌, ◌<◌}
use native.Mathlib.Nat.{not-suc-le-zero, le_of_suc-le-suc, eq-or-lt_of_le}
use native.Mathlib.Omega.{arith}
use mathlib.Core.Path.{◌≡◌, refl, sym, ap, ◌∙◌, subst}
use mathlib.Core.Logic.{◌↔◌, ⊎_elim}
use mathlib.Core.Bool.{Bool, true, false, cond, true≢false}
use mathlib.Core.List.{List}
use mathlib.Core.Option.{Option, none, some}
use Rattle.sheets.specs.Faults.{count, fault_at, or_else, smallest, first_fault}

-- i is the smallest number below n that passes the test
pub record Smallest (test : ℕ → Bool) (n i : ℕ) : Type 0 where
  pub in_range : i < n
  pub passes : test i ≡ true
  pub none_before : (j : ℕ) → j < i → test j ≡ false

-- no number below n passes the test
abbrev pub NoneBelow : (ℕ → Bool) → ℕ → Type 0
NoneBelow test n = (j : ℕ) → j < n → test j ≡ false

module _ (test : ℕ → Bool) where
  -- what `smallest` answers, in each case
  Answers : ℕ → Option ℕ → Type 0
  Answers n none = NoneBelow test n
  Answers n (some i) = Smallest test n i

  next : (n : ℕ) (o : Option ℕ) → Answers n o → (b : Bool) → test n ≡ b
      → Answers (suc n) (or_else o (cond b (some n) none))
  unfolding Answers or_else
  next n none a true e = record { in_range = omega arith; passes = e; none_before = a }
  next n none a false e = λ j h. ⊎_elim (λ (q : j ≡ n). ap test q ∙ e) (a j) (eq-or-lt_of_le (le_of_suc-le-suc h))
  next n (some i) a b e = record { in_range = omega (arith, a.in_range); passes = a.passes; none_before = a.none_before }

  answers : (n : ℕ) → Answers n (smallest test n)
  unfolding Answers smallest
  answers zero = λ j h. absurd (not-suc-le-zero h)
  answers (suc n) = next n (smallest test n) (answers n) (test n) refl

  -- a number that passes is not before the smallest
  not_before : {n i j : ℕ} → Smallest test n i → test j ≡ true → j < i → ⊥
  not_before {j} a e l = true≢false (sym e ∙ a.none_before j l)

  some_answered : (n i : ℕ) (o : Option ℕ) → Answers n o → Smallest test n i → o ≡ some i
  unfolding Answers
  some_answered n i none a s = absurd (true≢false (sym s.passes ∙ a i s.in_range))
  some_answered n i (some j) a s =
      let above : j < i → ⊥ = not_before s a.passes in
      let below : i < j → ⊥ = not_before a s.passes in
      let e : j ≡ i = omega arith in
      cc

  none_answered : (n : ℕ) (o : Option ℕ) → Answers n o → NoneBelow test n → o ≡ none
  unfolding Answers
  none_answered n none a h = refl
  none_answered n (some j) a h = absurd (true≢false (sym a.passes ∙ h j a.in_range))

  -- `smallest` answers i exactly when i is the smallest number below n that passes
  pub smallest_some : (n i : ℕ) → (smallest test n ≡ some i) ↔ Smallest test n i
  unfolding Answers
  smallest_some n i = (λ e. subst (Answers n) e (answers n), some_answered n i _ (answers n))

  -- .. and answers none exactly when no number below n passes
  pub smallest_none : (n : ℕ) → (smallest test n ≡ none) ↔ NoneBelow test n
  unfolding Answers
  smallest_none n = (λ e. subst (Answers n) e (answers n), none_answered n _ (answers n))

-- the first place at which a sheet has a fault; the places are 0 to n + 1
pub record FirstFault (s : List ℕ) (place : ℕ) : Type 0 where
  pub in_range : place < count s + 2
  pub is_fault : fault_at s place ≡ true
  pub none_before : (j : ℕ) → j < place → fault_at s j ≡ false

-- `first_fault` names the first place with a fault
pub first_fault_some : (s : List ℕ) (i : ℕ) → (first_fault s ≡ some i) ↔ FirstFault s i
unfolding first_fault
first_fault_some s i = (there, back)
  where
    there : smallest (fault_at s) (count s + 2) ≡ some i → FirstFault s i
    there e =
        let f = (smallest_some (fault_at s) (count s + 2) i).0 e in
        record { in_range = f.in_range; is_fault = f.passes; none_before = f.none_before }

    back : FirstFault s i → smallest (fault_at s) (count s + 2) ≡ some i
    back f =
        (smallest_some (fault_at s) (count s + 2) i).1
        (record { in_range = f.in_range; passes = f.is_fault; none_before = f.none_before })

-- .. and none exactly where no place has a fault
pub first_fault_none : (s : List ℕ) → (first_fault s ≡ none) ↔ NoneBelow (fault_at s) (count s + 2)
unfolding first_fault
first_fault_none s = smallest_none (fault_at s) (count s + 2)

-- a sheet has one first fault at most
pub first_fault_unique : {s : List ℕ} {i j : ℕ} → FirstFault s i → FirstFault s j → i ≡ j
first_fault_unique {s} {i} {j} a b =
    let ea : first_fault s ≡ some i = (first_fault_some s i).1 a in
    let eb : first_fault s ≡ some j = (first_fault_some s j).1 b in
    cc
