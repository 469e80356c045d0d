-- Every live handle, and the inner key of every done WRAP, is on a key that the token generated: which small changes keep that.
-- Rests on Births.
use Prim.Native.Nat.{ℕ}
use mathlib.Core.Path.{◌≡◌}
use mathlib.Core.Bool.{Bool, true}
use mathlib.Core.List.Memᴰ
use mathlib.Core.List.{List, ◌∷◌}
use lib.ListN.{set}
use Rattle.terms.specs.Lists.{◌∈◌}
use Rattle.terms.specs.Compromise.{Link, ◌under◌}
use Rattle.rules.specs.State.{Slot, Birth}
use Rattle.rules.proofs.Births.{BornWith, FromBirth, AllFromBirth, born_later, from_birth_binds, from_birth_bears}

-- a key was generated, with any byte
abbrev pub any_byte : ℕ → Bool
any_byte f = true

abbrev pub Generated : List Birth → ℕ → Type 0
Generated births k = BornWith any_byte births k

pub record AllGenerated (handles : List Slot) (births : List Birth) (wraps : List Link) : Type 0 where
  pub handles_on : AllFromBirth any_byte handles births
  pub inner_keys : {j k : ℕ} → (j under k) ∈ wraps → Generated births j

module _ {handles : List Slot} {births : List Birth} {wraps : List Link} (all : AllGenerated handles births wraps) where
  -- a WRAP is done, of a generated key
  pub generated_wraps : (j k : ℕ) → Generated births j → AllGenerated handles births ((j under k) ∷ wraps)
  generated_wraps j k b = record { handles_on = all.handles_on; inner_keys = each }
    where
      each : {i l : ℕ} → (i under l) ∈ (j under k) ∷ wraps → Generated births i
      each {i = i} (Memᴰ.head q) = let e : i ≡ j = cc in rw e b
      each (Memᴰ.tail m) = all.inner_keys m

  -- a handle number is bound, to a generated key, or set free
  pub generated_binds : (h : ℕ) (x : Slot) → FromBirth any_byte births x → AllGenerated (set handles h x) births wraps
  generated_binds h x b = record { handles_on = from_birth_binds h x all.handles_on b; inner_keys = all.inner_keys }

  -- a key is generated
  pub generated_bears : (birth : Birth) → AllGenerated handles (birth ∷ births) wraps
  generated_bears birth =
      record { handles_on = from_birth_bears birth all.handles_on; inner_keys = λ m. born_later (all.inner_keys m) }
