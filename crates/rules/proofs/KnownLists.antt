-- The list of known keys is one list, and the computed one is it: two ascending lists of the same numbers are equal.
-- Rests on Judging and on the terms crate's Decision.
use Prim.Native.Nat.{ℕ, zero, suc, ◌<◌}
use native.Mathlib.Nat.{eq-or-lt_of_le}
use native.Mathlib.Omega.{arith}
use mathlib.Core.Path.{◌≡◌, refl, sym, ◌∙◌}
use mathlib.Core.Logic.{◌⊎◌, inl, inr, ⊎_elim}
use mathlib.Core.Bool.{Bool, true, false, cond, true≢false}
use mathlib.Core.List.Memᴰ
use mathlib.Core.List.{List, [], ◌∷◌, ◌++◌, append-nil}
use Rattle.terms.specs.Lists.{◌∈◌, is_in}
use Rattle.terms.specs.Following.{reached}
use Rattle.terms.proofs.Lists.{◌⊆◌, is_in_true, in_is_in}
use Rattle.terms.proofs.Decision.{key_decided}
use Rattle.rules.specs.State.{State, new_key}
use Rattle.rules.specs.Known.{Ascending, none, one, more, KnownList}
use Rattle.rules.specs.Computing.{below_in, known_of}
use Rattle.rules.proofs.Sound.{Sound}
use Rattle.rules.proofs.Judging.{covers, known_in_table}

-- the rest of an ascending list ascends
rest_ascends : {k : ℕ} {l : List ℕ} → Ascending (k ∷ l) → Ascending l
rest_ascends one = none
rest_ascends (more h a) = a

-- and is greater than its first number
first_least : {k m : ℕ} {l : List ℕ} → Ascending (k ∷ l) → m ∈ l → k < m
first_least one h = absurd (Memᴰ.not-nil h)
first_least (more l a) (Memᴰ.head e) = omega arith
first_least (more l a) (Memᴰ.tail h) = omega (arith, first_least a h)

-- two ascending lists of the same numbers begin alike
same_first : {j k : ℕ} {l r : List ℕ} → Ascending (j ∷ l) → Ascending (k ∷ r) → (j ≡ k) ⊎ (j ∈ r) → (k ≡ j) ⊎ (k ∈ l) → j ≡ k
same_first a b (inl e) h = e
same_first a b (inr o) (inl e) = sym e
same_first a b (inr o) (inr o') = absurd (omega (arith, first_least b o, first_least a o'))

-- and what is in the rest of the one is in the rest of the other
rest_in : {j k : ℕ} {l r : List ℕ} → j ≡ k → Ascending (j ∷ l) → (j ∷ l) ⊆ (k ∷ r) → l ⊆ r
rest_in {k} e a sub m h =
    ⊎_elim (λ (q : m ≡ k). absurd (omega (arith, first_least a h))) (λ o. o)
    (Memᴰ.cases_cons (sub m (Memᴰ.tail h)))

-- two ascending lists of the same numbers are equal
pub ascending_unique : (l r : List ℕ) → Ascending l → Ascending r → l ⊆ r → r ⊆ l → l ≡ r
ascending_unique [] [] a b sub sup = refl
ascending_unique [] (k ∷ r) a b sub sup = absurd (Memᴰ.not-nil (sup k (Memᴰ.head refl)))
ascending_unique (j ∷ l) [] a b sub sup = absurd (Memᴰ.not-nil (sub j (Memᴰ.head refl)))
ascending_unique (j ∷ l) (k ∷ r) a b sub sup =
    let e : j ≡ k =
    same_first a b (Memᴰ.cases_cons (sub j (Memᴰ.head refl))) (Memᴰ.cases_cons (sup k (Memᴰ.head refl))) in
    let rest : l ≡ r = ascending_unique l r (rest_ascends a) (rest_ascends b) (rest_in e a sub) (rest_in (sym e) b sup) in
    cc

-- a state has one list of known keys
pub known_list_unique : {s : State} {l r : List ℕ} → KnownList s l → KnownList s r → l ≡ r
known_list_unique a b =
    ascending_unique _ _ a.ascending b.ascending (λ k h. b.each (a.no_other h)) (λ k h. a.each (b.no_other h))

-- a greater number put at the end of an ascending list
ascends_on : {l : List ℕ} {n : ℕ} → Ascending l → ((m : ℕ) → m ∈ l → m < n) → Ascending (l ++ n ∷ [])
ascends_on none above = one
ascends_on one above = more (above _ (Memᴰ.head refl)) one
ascends_on (more h a) above = more h (ascends_on a (λ m i. above m (Memᴰ.tail i)))

-- the numbers below n that are in the list: each is one, ascending, and all are there
record Below (n : ℕ) (list result : List ℕ) : Type 0 where
  all_below : (k : ℕ) → k ∈ result → k < n
  all_in : result ⊆ list
  all_there : (k : ℕ) → k < n → k ∈ list → k ∈ result
  in_order : Ascending result

-- asked of one number more
below_more : (n : ℕ) (list result : List ℕ) (found : Bool) → is_in n list ≡ found → Below n list result →
    Below (suc n) list (result ++ cond found (n ∷ []) [])
below_more n list result true e below = record {
  all_below = λ k h. ⊎_elim (λ r. omega (arith, below.all_below k r))
      (λ r. let q : k ≡ n = Memᴰ.eq_of_singleton r in omega arith) (Memᴰ.append_cases result h);
  all_in = λ k h. ⊎_elim (λ r. below.all_in k r) (λ r. Memᴰ.cast (Memᴰ.eq_of_singleton r) (is_in_true n list e))
      (Memᴰ.append_cases result h);
  all_there = λ k l h. ⊎_elim (λ q. Memᴰ.append_right result (Memᴰ.head q))
      (λ l'. Memᴰ.append_left (n ∷ []) (below.all_there k l' h)) (eq-or-lt_of_le {n = k} {m = n} (omega arith));
  in_order = ascends_on below.in_order below.all_below;
}
below_more n list result false e below = rw append-nil (record {
  all_below = λ k h. omega (arith, below.all_below k h);
  all_in = below.all_in;
  all_there = λ k l h. ⊎_elim (λ q. absurd (true≢false (sym (in_is_in (Memᴰ.cast (sym q) h)) ∙ e)))
      (λ l'. below.all_there k l' h) (eq-or-lt_of_le {n = k} {m = n} (omega arith));
  in_order = below.in_order;
})

-- the computed numbers below n are those
below : (n : ℕ) (list : List ℕ) → Below n list (below_in n list)
unfolding below_in
below zero list = record {
  all_below = λ k h. absurd (Memᴰ.not-nil h);
  all_in = λ k h. absurd (Memᴰ.not-nil h);
  all_there = λ k l h. absurd (omega arith);
  in_order = none;
}
below (suc n) list = below_more n list (below_in n list) (is_in n list) refl (below n list)

-- the computed list is the list of known keys
pub known_of_is : {s : State} → Sound s → KnownList s (known_of s)
unfolding known_of new_key
known_of_is {s} i =
    let b = below (new_key s.now) (reached s.past.own s.past.given s.now.table) in
    record {
      ascending = b.in_order;
      each = λ {k} h. b.all_there k (i.counted.keys_counted (known_in_table i h)) (is_in_true k _ ((key_decided (covers i) k).1 h));
      no_other = λ {k} h. (key_decided (covers i) k).0 (in_is_in (b.all_in k h));
    }
