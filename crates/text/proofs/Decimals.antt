-- A number in decimal is what std prints for it, and how many digits that has at most. Rests on specs/Text.antt and std's laws of what
-- it prints.
use Prim.Native.Nat.{ℕ, zero, suc, ◌/◌, ◌%◌, ◌≤◌, ◌<◌}
use native.Mathlib.Omega.{arith}
use mathlib.Core.Path.{◌≡◌, refl, sym, ap, ◌∙◌}
use mathlib.Core.Bool.{true, false}
use mathlib.Core.List.{List, [], ◌∷◌, ◌++◌}
use lib.Dec.{ltb}
use lib.ListN.{length}
use borrow.Author.Tests.{ltb-false, lt-ltb, le-ltb}
use Rattle.std.specs.Fmt.{decimal as printed}
use Rattle.std.proofs.lemmas.Fmt.{AppendsLastDigit, decimal_from_appends, length-decimal-le, length-decimal-le_succ}
use Rattle.terms.proofs.Lists.{bool_cases}
use Rattle.text.specs.Text.{digit, digits, decimal}

-- as many digits as the number's size are enough: more change nothing
digits_enough : (t u n : ℕ) → n ≤ t → n ≤ u → digits t n ≡ digits u n
unfolding digits
digits_enough zero zero n h k = refl
digits_enough zero (suc u) n h k = let e : ltb n 10 ≡ true = lt-ltb n 10 (omega arith) in rw e
digits_enough (suc t) zero n h k = let e : ltb n 10 ≡ true = lt-ltb n 10 (omega arith) in rw e
digits_enough (suc t) (suc u) n h k =
    bool_cases (ltb n 10) (λ (e : ltb n 10 ≡ true). rw e)
    (λ (e : ltb n 10 ≡ false).
    let low : 10 ≤ n = ltb-false n 10 e in
    rw e (ap (λ (l : List ℕ). l ++ digit (n % 10) ∷ []) (digits_enough t u (n / 10) (omega arith) (omega arith))))

appends : AppendsLastDigit digits
unfolding digits
appends =
    record {
      one = λ k n h. rw (lt-ltb n 10 h) refl;
      more = λ k n h. rw (le-ltb n 10 h) refl;
    }

pub decimal_printed : (n : ℕ) → n < 65536 → printed n ≡ decimal n
unfolding decimal
decimal_printed n h =
    sym (digits_enough n (suc n) n (omega arith) (omega arith)
    ∙ decimal_from_appends digits appends (suc n) n (omega arith) (omega (arith, length-decimal-le_succ n (omega arith))))

-- a number that is a byte has at most three digits
pub decimal_3 : (n : ℕ) → n < 256 → length (decimal n) ≤ 3
decimal_3 n h = rw (sym (decimal_printed n (omega arith))) (length-decimal-le 3 n (omega arith) (omega arith) (omega arith))
