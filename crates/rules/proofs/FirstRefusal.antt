-- "If several of 1 to 11 apply to a command, the smallest is answered": the first refusal that applies, in the order of asking,
-- is the smallest that applies, since the order of asking is ascending. Rests on the definitions alone.
use Prim.Native.Nat.{ℕ, suc, ◌≤◌}
use mathlib.Core.Path.{◌≡◌, refl, sym, subst, ◌∙◌}
use mathlib.Core.Logic.{◌⊎◌, inl, inr, ⊎_elim, ◌↔◌}
use mathlib.Core.Bool.{Bool, true, false}
use mathlib.Core.List.Memᴰ
use mathlib.Core.List.{List, [], ◌∷◌}
use native.Mathlib.Omega.{arith}
use Rattle.terms.specs.Lists.{◌∈◌}
use Rattle.rules.specs.Templates.{Policy}
use Rattle.rules.specs.Commands.{Command}
use Rattle.rules.specs.State.{Now}
use Rattle.rules.specs.Refusals.{Refusal, ◌if◌, refusals, first}

-- no refusal of the list applies
abbrev pub NoneApplies : List Refusal → Type 0
NoneApplies list = (m : ℕ) → (m if true) ∈ list → ⊥

-- n applies, and is the smallest that does
pub record FirstRefusal (list : List Refusal) (n : ℕ) : Type 0 where
  pub applies : (n if true) ∈ list
  pub smallest : {m : ℕ} → (m if true) ∈ list → n ≤ m

-- n is answered to the list: 0 where nothing applies, else the smallest that applies
abbrev pub Answered : List Refusal → ℕ → Type 0
Answered list n = ((n ≡ 0) × NoneApplies list) ⊎ FirstRefusal list n

-- the numbers of the list ascend, from `low` to at most `high`
abbrev Ascends : (low high : ℕ) → List Refusal → Type 0
Ascends low high [] = Unit {0}
Ascends low high ((n if test) ∷ list) = (low ≤ n) × (n ≤ high) × Ascends (suc n) high list

-- each number of an ascending list lies between its ends
bounded : (low high : ℕ) (list : List Refusal) → Ascends low high list → (n : ℕ) (test : Bool) → (n if test) ∈ list →
    (low ≤ n) × (n ≤ high)
bounded low high [] up n test x'' = elim x'' [ ]
bounded low high ((m if t) ∷ list) up n test (Memᴰ.head q) = let e : m ≡ n = cc in (omega arith, omega arith)
bounded low high ((m if t) ∷ list) up n test (Memᴰ.tail h) =
    let b : (suc m ≤ n) × (n ≤ high) = bounded (suc m) high list up.2 n test h in
    (omega arith, omega arith)

-- where the numbers ascend from 1 or more, the first that applies is the smallest, and 0 stands for none
first_of : (low high : ℕ) (list : List Refusal) → 1 ≤ low → Ascends low high list → Answered list (first list)
unfolding first
first_of low high [] pos up = inl (refl, λ m h. Memᴰ.not-nil h)
first_of low high ((n if true) ∷ list) pos up = inr (record { applies = Memᴰ.head refl; smallest = least })
  where
    least : {m : ℕ} → (m if true) ∈ ((n if true) ∷ list) → n ≤ m
    least {m} (Memᴰ.head q) = let e : m ≡ n = cc in omega arith
    least {m} (Memᴰ.tail h) = omega (arith, (bounded (suc n) high list up.2 m true h).0)
first_of low high ((n if false) ∷ list) pos up =
    ⊎_elim (λ no. inl (no.0, λ m h. no.1 m (later m h)))
    (λ r. inr (record { applies = Memᴰ.tail r.applies; smallest = λ {m} h. r.smallest (later m h) }))
    (first_of (suc n) high list (omega arith) up.2)
  where
    later : (m : ℕ) → (m if true) ∈ ((n if false) ∷ list) → (m if true) ∈ list
    later m (Memᴰ.head q) = absurd (let z : ◌≡◌ {A = ℕ} 0 1 = cc in omega arith)
    later m (Memᴰ.tail h) = h

-- one number alone is answered
one_answered : {list : List Refusal} {m n : ℕ} → Answered list m → Answered list n → m ≡ n
one_answered (inl z) (inl z') = z.0 ∙ sym z'.0
one_answered (inl z) (inr r) = absurd (z.1 _ r.applies)
one_answered (inr r) (inl z) = absurd (z.1 _ r.applies)
one_answered {m} {n} (inr r) (inr r') = omega (arith, r.smallest r'.applies, r'.smallest r.applies)

module _ (p : Policy) (held : ℕ → Bool) (now : Now) (c : Command) where
  -- the order of asking ascends from 2 to 11
  order : Ascends 2 11 (refusals p held now c)
  unfolding refusals
  order = omega arith

  -- a refusal that can apply is one of 2 to 11
  pub in_table : {n : ℕ} {test : Bool} → (n if test) ∈ refusals p held now c → (2 ≤ n) × (n ≤ 11)
  in_table {n} {test} h = bounded 2 11 (refusals p held now c) order n test h

  -- either nothing applies and the first refusal is 0, or the first refusal is the smallest that applies
  pub first_answered : Answered (refusals p held now c) (first (refusals p held now c))
  first_answered = first_of 2 11 (refusals p held now c) (omega arith) order

  -- "If several of 1 to 11 apply to a command, the smallest is answered", and 0 exactly where none does
  pub first_is_smallest : (n : ℕ) → (first (refusals p held now c) ≡ n) ↔ Answered (refusals p held now c) n
  first_is_smallest n =
      (λ e. subst (Answered (refusals p held now c)) e first_answered, λ right. one_answered first_answered right)
