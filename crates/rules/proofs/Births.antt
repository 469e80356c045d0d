-- Live handles whose keys were generated with flag bytes of a certain kind: which small changes keep that. The kind is a test
-- of bytes, such as "has W". Rests on the definitions alone.
use Prim.Native.Nat.{ℕ}
use mathlib.Core.Path.{◌≡◌, refl, sym, ◌∙◌}
use mathlib.Core.Bool.{Bool, true, false, true≢false}
use mathlib.Core.List.Memᴰ
use mathlib.Core.List.{List, ◌∷◌}
use mathlib.Core.Logic.{⊎_elim}
use lib.ListN.{set}
use Rattle.terms.specs.Lists.{◌∈◌}
use Rattle.terms.proofs.Lists.{in_set}
use Rattle.rules.specs.State.{Slot, dead, live, Birth, ◌born◌}

-- key k was generated with a byte of this kind
pub record BornWith (kind : ℕ → Bool) (births : List Birth) (k : ℕ) : Type 0 where
  pub byte : ℕ
  pub is_born : (k born byte) ∈ births
  pub is_of_kind : kind byte ≡ true

-- a live handle with a byte of this kind is on a key generated with one
abbrev pub FromBirth : (ℕ → Bool) → List Birth → Slot → Type 0
FromBirth kind births dead = Unit
FromBirth kind births (live k f) = kind f ≡ true → BornWith kind births k

abbrev pub AllFromBirth : (ℕ → Bool) → List Slot → List Birth → Type 0
AllFromBirth kind handles births = (x : Slot) → x ∈ handles → FromBirth kind births x

module _ {kind : ℕ → Bool} {births : List Birth} where
  -- a generated key stays one
  pub born_later : {k : ℕ} {birth : Birth} → BornWith kind births k → BornWith kind (birth ∷ births) k
  born_later b = record { byte = b.byte; is_born = Memᴰ.tail b.is_born; is_of_kind = b.is_of_kind }

  -- a handle number is bound or set free
  pub from_birth_binds : {handles : List Slot} (h : ℕ) (x : Slot) → AllFromBirth kind handles births → FromBirth kind births x
      → AllFromBirth kind (set handles h x) births
  from_birth_binds {handles} h x all new y m = ⊎_elim (λ (e : y ≡ x). rw e new) (all y) (in_set handles h x m)

  -- a key is generated
  pub from_birth_bears : {handles : List Slot} (birth : Birth) → AllFromBirth kind handles births
      → AllFromBirth kind handles (birth ∷ births)
  from_birth_bears birth all x m = later x (all x m)
    where
      later : (x : Slot) → FromBirth kind births x → FromBirth kind (birth ∷ births) x
      later dead b = tt
      later (live k f) b = λ e. born_later (b e)

  -- a handle may be bound to a key that has just been generated with its byte
  pub newborn : (k f : ℕ) → FromBirth kind ((k born f) ∷ births) (live k f)
  newborn k f e = record { byte = f; is_born = Memᴰ.head refl; is_of_kind = e }

  -- of a handle whose byte is not of the kind nothing is asked
  pub not_of_kind : (k f : ℕ) → kind f ≡ false → FromBirth kind births (live k f)
  not_of_kind k f is_not e = absurd (true≢false (sym e ∙ is_not))
