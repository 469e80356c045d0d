-- The right to wrap and the right to decrypt come from a key's birth: which small changes keep that, each stated over the lists
-- that it touches. Rests on Births.
use Prim.Native.Nat.{ℕ}
use mathlib.Core.Path.{◌≡◌}
use mathlib.Core.Bool.{true}
use mathlib.Core.List.Memᴰ
use mathlib.Core.List.{List, ◌∷◌}
use lib.ListN.{set}
use Rattle.terms.specs.Lists.{◌∈◌}
use Rattle.terms.specs.Compromise.{Link, ◌under◌}
use Rattle.rules.specs.Flags.{W, D, has}
use Rattle.rules.specs.State.{Slot, Birth, ◌born◌}
use Rattle.rules.proofs.Births.{BornWith, FromBirth, AllFromBirth, born_later, from_birth_binds, from_birth_bears}

pub record Rights (handles : List Slot) (births : List Birth) (wraps : List Link) : Type 0 where
  -- a live handle with W is on a key generated with W, one with D on a key generated with D
  pub wrapping : AllFromBirth (has W) handles births
  pub decrypting : AllFromBirth (has D) handles births
  -- no key was generated with both
  pub one_right : {k f : ℕ} → (k born f) ∈ births → has W f ≡ true → has D f ≡ true → ⊥
  -- the outer key of every done WRAP was generated with W
  pub outer_wraps : {j k : ℕ} → (j under k) ∈ wraps → BornWith (has W) births k

module _ {handles : List Slot} {births : List Birth} {wraps : List Link} (r : Rights handles births wraps) where
  -- a handle number is bound or set free
  pub rights_binds : (h : ℕ) (x : Slot) → FromBirth (has W) births x → FromBirth (has D) births x
      → Rights (set handles h x) births wraps
  rights_binds h x w d = record {
    wrapping = from_birth_binds h x r.wrapping w;
    decrypting = from_birth_binds h x r.decrypting d;
    one_right = r.one_right;
    outer_wraps = r.outer_wraps;
  }

  -- a key is generated, not with both rights
  pub rights_bears : (k f : ℕ) → (has W f ≡ true → has D f ≡ true → ⊥) → Rights handles ((k born f) ∷ births) wraps
  rights_bears k f one =
      record {
        wrapping = from_birth_bears (k born f) r.wrapping;
        decrypting = from_birth_bears (k born f) r.decrypting;
        one_right = one_each;
        outer_wraps = λ m. born_later (r.outer_wraps m);
      }
    where
      one_each : {j g : ℕ} → (j born g) ∈ (k born f) ∷ births → has W g ≡ true → has D g ≡ true → ⊥
      one_each {g = g} (Memᴰ.head q) w d = let e : g ≡ f = cc in one (rw e at w) (rw e at d)
      one_each (Memᴰ.tail m) w d = r.one_right m w d

  -- a WRAP is done, under a key that was generated with W
  pub rights_wraps : (j k : ℕ) → BornWith (has W) births k → Rights handles births ((j under k) ∷ wraps)
  rights_wraps j k b =
      record { wrapping = r.wrapping; decrypting = r.decrypting; one_right = r.one_right; outer_wraps = each }
    where
      each : {i l : ℕ} → (i under l) ∈ (j under k) ∷ wraps → BornWith (has W) births l
      each {l = l} (Memᴰ.head q) = let e : l ≡ k = cc in rw e b
      each (Memᴰ.tail m) = r.outer_wraps m
