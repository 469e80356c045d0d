-- Laws of terms and of a token's table: sameness is equality, a listed term is in the table, a term's number is its place,
-- and entering adds the term once and moves nothing. Rests on specs/Terms.antt.
use Prim.Native.Nat.{ℕ, suc}
use mathlib.Core.Bool.{Bool, true, false, ◌&&◌, false≢true, true≢false}
use mathlib.Core.List.Memᴰ
use mathlib.Core.List.{[], ◌∷◌, ◌++◌}
use mathlib.Core.Logic.{◌⊎◌, inl, inr, ⊎_elim}
use mathlib.Core.Option.{Option, some}
use mathlib.Core.Path.{◌≡◌, refl, sym, ap, ap₂, ◌∙◌}
use borrow.Author.Tests.{eqb-true, eq-eqb}
use lib.Dec.{eqb}
use lib.ListN.{length, get_elem?}
use Rattle.terms.specs.Lists.{◌∈◌, some_of}
use Rattle.terms.specs.Terms.{Term, item, key, seal, same, Table, listed, number_of, enter}
use Rattle.terms.proofs.Lists.{bool_cases, some_of_true, some_of_in, some_of_false, at_append}

-- both of two tests hold
both : (a b : Bool) → (a && b) ≡ true → (a ≡ true) × (b ≡ true)
both true b e = (refl, e)
both false b e = absurd (false≢true e)

-- terms that are the same symbol are equal
pub same_true : (a b : Term) → same a b ≡ true → a ≡ b
unfolding same
same_true (item a) (item b) e = ap item (eqb-true a b e)
same_true (item a) (key b) e = absurd (false≢true e)
same_true (item a) (seal k m) e = absurd (false≢true e)
same_true (key a) (item b) e = absurd (false≢true e)
same_true (key a) (key b) e = ap key (eqb-true a b e)
same_true (key a) (seal k m) e = absurd (false≢true e)
same_true (seal j l) (item b) e = absurd (false≢true e)
same_true (seal j l) (key b) e = absurd (false≢true e)
same_true (seal j l) (seal k m) e =
    let h = both (eqb j k) (same l m) e in
    ap₂ seal (eqb-true j k h.0) (same_true l m h.1)

-- a term is the same symbol as itself
pub same_self : (a : Term) → same a a ≡ true
unfolding same
same_self (item a) = eq-eqb a a refl
same_self (key a) = eq-eqb a a refl
same_self (seal k m) = rw (eq-eqb k k refl) (same_self m)

-- a listed term is in the table
pub listed_true : (table : Table) (m : Term) → listed table m ≡ true → m ∈ table
unfolding listed
listed_true table m e = let r = some_of_true (same m) table e in Memᴰ.cast (same_true m r.0 r.2) r.1

-- a term in the table is listed
pub in_listed : {table : Table} {m : Term} → m ∈ table → listed table m ≡ true
unfolding listed
in_listed {m = m} h = some_of_in (same m) h (same_self m)

-- a term that is not listed is not in the table
pub listed_false : (table : Table) (m : Term) → listed table m ≡ false → ¬ (m ∈ table)
listed_false table m e h = true≢false (sym (in_listed h) ∙ e)

-- a term of the table stands at its number
pub number_at : {m : Term} {table : Table} → m ∈ table → get_elem? table (number_of table m) ≡ some m
unfolding number_of
number_at {m = m} (Memᴰ.head {x = x} q) = let e : same m x ≡ true = rw (← q) (same_self m) in rw (e, q)
number_at {m = m} (Memᴰ.tail {x = x} {xs = table} h) =
    let ih : get_elem? table (number_of table m) ≡ some m = number_at h in
    bool_cases (same m x) (λ (e : same m x ≡ true). rw e (ap {B = Option Term} some (sym (same_true m x e))))
    (λ (e : same m x ≡ false). rw e ih)

-- a term not yet listed, put at the end, has for its number the count of terms before it
pub number_new : (table : Table) (m : Term) → listed table m ≡ false → number_of (table ++ m ∷ []) m ≡ length table
unfolding number_of listed some_of
number_new [] m e = rw (same_self m)
number_new (x ∷ table) m e =
    let other : same m x ≡ false = some_of_false (same m) {l = x ∷ table} e (Memᴰ.head refl) in
    let rest : listed table m ≡ false = rw other at e in
    rw other (ap suc (number_new table m rest))

-- where the term is listed, entering changes nothing
pub enter_listed : (table : Table) (m : Term) → listed table m ≡ true → enter table m ≡ table
unfolding enter
enter_listed table m e = rw e

-- where the term is not listed, entering puts it at the end
pub enter_new : (table : Table) (m : Term) → listed table m ≡ false → enter table m ≡ table ++ m ∷ []
unfolding enter
enter_new table m e = rw e

-- what was in the table is in it after entering
pub in_enter : {x : Term} (table : Table) (m : Term) → x ∈ table → x ∈ enter table m
in_enter {x} table m h =
    bool_cases (listed table m) (λ (e : listed table m ≡ true). rw (enter_listed table m e) h)
    (λ (e : listed table m ≡ false). rw (enter_new table m e) (Memᴰ.append_left (m ∷ []) h))

-- what has a number keeps it after entering
pub at_enter : {x : Term} (table : Table) (m : Term) (n : ℕ) → get_elem? table n ≡ some x → get_elem? (enter table m) n ≡ some x
at_enter table m n h =
    bool_cases (listed table m) (λ (e : listed table m ≡ true). rw (enter_listed table m e) h)
    (λ (e : listed table m ≡ false). rw (enter_new table m e) (at_append table (m ∷ []) n h))

-- a term entered is in the table
pub enter_in : (table : Table) (m : Term) → m ∈ enter table m
enter_in table m =
    bool_cases (listed table m) (λ (e : listed table m ≡ true). in_enter table m (listed_true table m e))
    (λ (e : listed table m ≡ false). rw (enter_new table m e) (Memᴰ.append_right table (Memᴰ.head refl)))

-- what is in the table after entering was in it, or is the term entered
pub enter_cases : {x : Term} (table : Table) (m : Term) → x ∈ enter table m → (x ∈ table) ⊎ (x ≡ m)
enter_cases {x} table m h =
    bool_cases (listed table m) (λ (e : listed table m ≡ true). inl (rw (enter_listed table m e) at h))
    (λ (e : listed table m ≡ false). ⊎_elim inl (λ s. inr (Memᴰ.eq_of_singleton s))
    (Memᴰ.append_cases table (rw (enter_new table m e) at h)))
