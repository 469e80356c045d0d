-- What holds of everything in a list: how such a fact is put together and taken apart. Rests on the list libraries alone.
use Prim.Native.Nat.{ℕ, zero, suc}
use mathlib.Core.Path.{◌≡◌, refl, sym, subst}
use mathlib.Core.Logic.{⊎_elim}
use mathlib.Core.List.Memᴰ
use mathlib.Core.List.{List, [], ◌∷◌, ◌++◌}
use lib.ListN.{replicate, take, drop, take-append-drop}
use Rattle.terms.specs.Lists.{◌∈◌}

-- P holds of everything in the list
abbrev pub Each : {A : Type 0} → (A → Type 0) → List A → Type 0
Each {A} P l = (x : A) → x ∈ l → P x

module _ {A : Type 0} (P : A → Type 0) where
  pub each_nil : Each P []
  each_nil x m = absurd (Memᴰ.not-nil m)

  pub each_cons : (a : A) (l : List A) → P a → Each P l → Each P (a ∷ l)
  each_cons a l p each x m = ⊎_elim (λ (e : x ≡ a). subst P (sym e) p) (each x) (Memᴰ.cases_cons m)

  pub each_append : (l r : List A) → Each P l → Each P r → Each P (l ++ r)
  each_append l r left right x m = ⊎_elim (left x) (right x) (Memᴰ.append_cases l m)

  pub each_head : (a : A) (l : List A) → Each P (a ∷ l) → P a
  each_head a l each = each a (Memᴰ.head refl)

  pub each_tail : (a : A) (l : List A) → Each P (a ∷ l) → Each P l
  each_tail a l each x m = each x (Memᴰ.tail m)

  pub each_replicate : (n : ℕ) (a : A) → P a → Each P (replicate n a)
  each_replicate zero a p = each_nil
  each_replicate (suc n) a p = each_cons a (replicate n a) p (each_replicate n a p)

  pub each_drop : (n : ℕ) (l : List A) → Each P l → Each P (drop n l)
  each_drop n l each x m = each x (subst (λ (k : List A). x ∈ k) (take-append-drop n l) (Memᴰ.append_right (take n l) m))

  pub each_take : (n : ℕ) (l : List A) → Each P l → Each P (take n l)
  each_take n l each x m = each x (subst (λ (k : List A). x ∈ k) (take-append-drop n l) (Memᴰ.append_left (drop n l) m))
