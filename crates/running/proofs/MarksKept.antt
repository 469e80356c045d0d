-- When the mark of a key stays: a key is marked exactly where following reaches it, so a mark stays where following reaches as
-- far before as after. Rests on the terms crate's Following.
use Prim.Native.Nat.{ℕ}
use mathlib.Core.Path.{◌≡◌, refl, sym}
use mathlib.Core.Bool.{Bool, true, false}
use mathlib.Core.List.{List}
use Rattle.terms.specs.Lists.{◌∈◌}
use Rattle.terms.specs.Terms.{Term, Table, key, seal}
use Rattle.terms.specs.Following.{Reached, own_key, given_key, under_key, held_by_following}
use Rattle.terms.proofs.Lists.{◌⊆◌, is_in_true, in_is_in}
use Rattle.terms.proofs.Following.{in_reached, reached_in}
use Rattle.rules.specs.State.{State}

-- following reaches key k
abbrev pub Reaches : State → ℕ → Type 0
Reaches s k = Reached s.past.own s.past.given s.now.table k

-- the mark of key k in a state
abbrev pub mark : State → ℕ → Bool
mark s k = held_by_following s.past.own s.past.given s.now.table (key k)

-- a marked key is one that following reaches
pub marked_reached : (s : State) (k : ℕ) → mark s k ≡ true → Reaches s k
unfolding held_by_following
marked_reached s k e = in_reached (is_in_true k _ e)

-- and the other way round
pub reached_marked : (s : State) {k : ℕ} → Reaches s k → mark s k ≡ true
unfolding held_by_following
reached_marked s r = in_is_in (reached_in r)

-- two tests that hold alike are equal
pub alike : (a b : Bool) → (a ≡ true → b ≡ true) → (b ≡ true → a ≡ true) → a ≡ b
alike true b f g = sym (f refl)
alike false true f g = g refl
alike false false f g = refl

-- where following reaches a key in both states or in neither, its marks are equal
pub same_mark : (s s' : State) (k : ℕ) → (Reaches s k → Reaches s' k) → (Reaches s' k → Reaches s k) → mark s k ≡ mark s' k
same_mark s s' k f g =
    alike (mark s k) (mark s' k) (λ e. reached_marked s' (f (marked_reached s k e)))
    (λ e. reached_marked s (g (marked_reached s' k e)))

-- every key of the table keeps its mark
abbrev pub SameMarks : State → State → Type 0
SameMarks s s' = (k : ℕ) → key k ∈ s.now.table → mark s k ≡ mark s' k

-- following stays within any set of keys that has the own and the given ones and, with the outer key of a direct seal, the inner
pub record Within (own given : List Term) (table : Table) (P : ℕ → Type 0) : Type 0 where
  pub own_within : (k : ℕ) → key k ∈ own → P k
  pub given_within : (k : ℕ) → key k ∈ given → P k
  pub seals_within : (j k : ℕ) → seal k (key j) ∈ table → P k → P j

-- every key reached is in the set
pub reached_within : {own given : List Term} {table : Table} {P : ℕ → Type 0} {k : ℕ} → Within own given table P →
    Reached own given table k → P k
reached_within w (own_key h) = w.own_within _ h
reached_within w (given_key h) = w.given_within _ h
reached_within w (under_key h r) = w.seals_within _ _ h (reached_within w r)

-- following reaches no less where no less is owned, given and in the table
pub reached_more : {own given own' given' : List Term} {table table' : Table} {k : ℕ} → own ⊆ own' → given ⊆ given' →
    table ⊆ table' → Reached own given table k → Reached own' given' table' k
reached_more o g t (own_key h) = own_key (o _ h)
reached_more o g t (given_key h) = given_key (g _ h)
reached_more o g t (under_key h r) = under_key (t _ h) (reached_more o g t r)
