-- Marking one entry as held: what changes, and that nothing else does. Rests on the definitions alone.
use Prim.Native.Nat.{ℕ, zero, suc, ◌<◌}
use mathlib.Core.Path.{◌≡◌, refl, ap}
use mathlib.Core.Bool.{Bool, true}
use mathlib.Core.List.{List, [], ◌∷◌}
use mathlib.Core.Logic.{◌⊎◌, inl, inr, ⊎_elim}
use native.Mathlib.Omega.{arith}
use lib.ListN.{length, get_or, set}
use Rattle.shapes.specs.Entries.{is_own_entry}
use Rattle.shapes.specs.declared.Entry.{Entry}
use Rattle.token.specs.Shows.{blank_entry, entry}
use Rattle.running.specs.Leaks.{kind_at, held_at}

abbrev pub own_at : List Entry → ℕ → Bool
own_at entries i = is_own_entry (get_or entries i blank_entry)

-- entry p, held
abbrev pub marked : List Entry → ℕ → List Entry
marked entries p = set entries p (entry (kind_at entries p) true (own_at entries p))

-- every term stays the same
pub marked_kind : (es : List Entry) (p i : ℕ) → kind_at (marked es p) i ≡ kind_at es i
marked_kind [] p i = refl
marked_kind (x ∷ es) zero zero = refl
marked_kind (x ∷ es) zero (suc i) = refl
marked_kind (x ∷ es) (suc p) zero = refl
marked_kind (x ∷ es) (suc p) (suc i) = marked_kind es p i

-- and whose own it is
pub marked_own : (es : List Entry) (p i : ℕ) → own_at (marked es p) i ≡ own_at es i
marked_own [] p i = refl
marked_own (x ∷ es) zero zero = refl
marked_own (x ∷ es) zero (suc i) = refl
marked_own (x ∷ es) (suc p) zero = refl
marked_own (x ∷ es) (suc p) (suc i) = marked_own es p i

-- term p is held
pub marked_here : (es : List Entry) (p : ℕ) → p < length es → held_at (marked es p) p ≡ true
marked_here [] p l = absurd (omega arith)
marked_here (x ∷ es) zero l = refl
marked_here (x ∷ es) (suc p) l = marked_here es p (omega arith)

-- what was held is held
pub marked_still : (es : List Entry) (p i : ℕ) → held_at es i ≡ true → held_at (marked es p) i ≡ true
marked_still [] p i h = h
marked_still (x ∷ es) zero zero h = refl
marked_still (x ∷ es) zero (suc i) h = h
marked_still (x ∷ es) (suc p) zero h = h
marked_still (x ∷ es) (suc p) (suc i) h = marked_still es p i h

-- and nothing else but term p
pub marked_only : (es : List Entry) (p i : ℕ) → held_at (marked es p) i ≡ true → (held_at es i ≡ true) ⊎ (i ≡ p)
marked_only [] p i h = inl h
marked_only (x ∷ es) zero zero h = inr refl
marked_only (x ∷ es) zero (suc i) h = inl h
marked_only (x ∷ es) (suc p) zero h = inl h
marked_only (x ∷ es) (suc p) (suc i) h = ⊎_elim inl (λ e. inr (ap suc e)) (marked_only es p i h)
