-- The last number below n that passes a test: what `last` of specs/Chains.antt says, for any test. Rests on the definition alone.
use Prim.Native.Nat.{ℕ, zero, suc, ◌≤◌, ◌<◌}
use mathlib.Core.Path.{◌≡◌, refl, sym, ◌∙◌}
use mathlib.Core.Bool.{Bool, true, false, true≢false}
use native.Mathlib.Omega.{arith}
use lib.Dec.{ltb}
use borrow.Author.Tests.{ltb-true, ltb-false}
use Rattle.terms.proofs.Lists.{bool_cases}
use Rattle.token.specs.Chains.{last}

-- one step of `last`, where the test passes and where it fails
pub last_hit : (test : ℕ → Bool) (n : ℕ) → test n ≡ true → last test (suc n) ≡ suc n
unfolding last
last_hit test n e = rw e

pub last_miss : (test : ℕ → Bool) (n : ℕ) → test n ≡ false → last test (suc n) ≡ last test n
unfolding last
last_miss test n e = rw e

pub last_of_zero : (test : ℕ → Bool) → last test 0 ≡ 0
unfolding last
last_of_zero test = refl

-- it is at most n
pub last_le : (test : ℕ → Bool) (n : ℕ) → last test n ≤ n
last_le test zero = omega (arith, last_of_zero test)
last_le test (suc n) =
    bool_cases (test n) (λ e. omega (arith, last_hit test n e)) (λ e. omega (arith, last_miss test n e, last_le test n))

-- the number that it gives passes
pub last_passes : (test : ℕ → Bool) (n i : ℕ) → last test n ≡ suc i → test i ≡ true
last_passes test zero i h = let e : last test 0 ≡ 0 = last_of_zero test in absurd (omega arith)
last_passes test (suc n) i h =
    bool_cases (test n) (λ (e : test n ≡ true). let q : n ≡ i = omega (arith, last_hit test n e) in rw q at e)
    (λ e. last_passes test n i (sym (last_miss test n e) ∙ h))

-- two numbers are the same, or one is below the other
pub below_or_same : {C : Type 0} (i j : ℕ) → (i < j → C) → (i ≡ j → C) → (j < i → C) → C
below_or_same i j less same more =
    bool_cases (ltb i j) (λ e. less (ltb-true i j e))
    (λ e.
    bool_cases (ltb j i) (λ q. more (ltb-true j i q)) (λ q. same (omega (arith, ltb-false i j e, ltb-false j i q))))

-- nothing at or above it passes
pub last_above : (test : ℕ → Bool) (n j : ℕ) → last test n ≤ j → j < n → test j ≡ false
last_above test zero j h l = absurd (omega arith)
last_above test (suc n) j h l =
    bool_cases (test n) (λ e. absurd (omega (arith, last_hit test n e)))
    (λ (e : test n ≡ false).
    below_or_same j n (λ less. last_above test n j (omega (arith, last_miss test n e)) less) (λ (q : j ≡ n). rw q e)
    (λ more. absurd (omega arith)))

-- where there is none, nothing below n passes
pub last_none : (test : ℕ → Bool) (n j : ℕ) → last test n ≡ 0 → j < n → test j ≡ false
last_none test n j h l = last_above test n j (omega arith) l

-- what fails at and above m does not count
pub last_cut : (test : ℕ → Bool) (m n : ℕ) → m ≤ n → ((j : ℕ) → m ≤ j → j < n → test j ≡ false) → last test n ≡ last test m
last_cut test m zero h none = let q : m ≡ 0 = omega arith in rw q
last_cut test m (suc n) h none =
    below_or_same m (suc n)
    (λ less. last_miss test n (none n (omega arith) (omega arith)) ∙
    last_cut test m n (omega arith) (λ j a b. none j a (omega arith)))
    (λ (q : m ≡ suc n). rw q) (λ more. absurd (omega arith))

-- where none below n passes, there is none
pub none_last : (test : ℕ → Bool) (n : ℕ) → ((j : ℕ) → j < n → test j ≡ false) → last test n ≡ 0
none_last test n none = last_cut test 0 n (omega arith) (λ j a b. none j b) ∙ last_of_zero test

-- what passes and has nothing that passes above it is the last
pub last_at : (test : ℕ → Bool) (n i : ℕ) → i < n → test i ≡ true → ((j : ℕ) → i < j → j < n → test j ≡ false) →
    last test n ≡ suc i
last_at test n i h e none = last_cut test (suc i) n h none ∙ last_hit test i e

-- two tests that agree below n have the same last
pub last_same : (test test' : ℕ → Bool) (n : ℕ) → ((j : ℕ) → j < n → test j ≡ test' j) → last test n ≡ last test' n
unfolding last
last_same test test' zero same = refl
last_same test test' (suc n) same =
    let here : test n ≡ test' n = same n (omega arith) in
    let below : last test n ≡ last test' n = last_same test test' n (λ j l. same j (omega arith)) in
    rw (here, below)

-- where one test implies another, its last is found at or below the other's
pub last_implied : (test test' : ℕ → Bool) (n : ℕ) → ((j : ℕ) → j < n → test j ≡ true → test' j ≡ true) →
    last test n ≡ last test (last test' n)
last_implied test test' n implied =
    last_cut test (last test' n) n (last_le test' n)
    (λ j a b. bool_cases (test j) (λ e. absurd (true≢false (sym (implied j b e) ∙ last_above test' n j a b))) (λ e. e))
