-- There are no more keys than terms, since every key is a term: a key's number fits where a term's number fits. Rests on the
-- rules crate's Sound.
use Prim.Native.Nat.{ℕ, zero, suc, ◌≤◌, ◌<◌}
use native.Mathlib.Omega.{arith}
use mathlib.Core.Path.{◌≡◌, refl, sym, ap, ◌∙◌}
use mathlib.Core.List.Memᴰ
use mathlib.Core.List.{List, ◌∷◌}
use lib.ListN.{length}
use Rattle.terms.specs.Lists.{◌∈◌}
use Rattle.terms.specs.Terms.{Term, key}
use Rattle.rules.specs.State.{State}
use Rattle.rules.proofs.Sound.{Sound}

-- the list without one thing that is in it
unfoldable without : {A : Type 0} {x : A} {l : List A} → x ∈ l → List A
without (Memᴰ.head {xs = l} e) = l
without (Memᴰ.tail {x = y} h) = y ∷ without h

-- it is one shorter
without_length : {A : Type 0} {x : A} {l : List A} (h : x ∈ l) → length l ≡ suc (length (without h))
unfolding without
without_length (Memᴰ.head e) = refl
without_length (Memᴰ.tail h) = ap suc (without_length h)

-- and has every other thing
in_without : {A : Type 0} {x y : A} {l : List A} (h : x ∈ l) → y ∈ l → ¬ (y ≡ x) → y ∈ without h
unfolding without
in_without (Memᴰ.head e) (Memᴰ.head q) ne = absurd (ne (q ∙ sym e))
in_without (Memᴰ.head e) (Memᴰ.tail m) ne = m
in_without (Memᴰ.tail h) (Memᴰ.head q) ne = Memᴰ.head q
in_without (Memᴰ.tail h) (Memᴰ.tail m) ne = Memᴰ.tail (in_without h m ne)

-- a list that has the first n keys has n terms or more
keys_fit : (n : ℕ) (l : List Term) → ((k : ℕ) → k < n → key k ∈ l) → n ≤ length l
keys_fit zero l each = omega arith
keys_fit (suc n) l each =
    let h : key n ∈ l = each n (omega arith) in
    let fewer : n ≤ length (without h) =
    keys_fit n (without h)
    (λ k less. in_without h (each k (omega arith)) (λ (e : key k ≡ key n). let q : k ≡ n = cc in omega arith)) in
    omega (arith, without_length h)

-- there are no more keys than terms
pub few_keys : {s : State} → Sound s → length s.now.origins ≤ length s.now.table
few_keys {s} i = keys_fit (length s.now.origins) s.now.table (λ k h. i.counted.counted_keys h)

-- a key of the table has a number below the count of terms
pub key_below : {s : State} {k : ℕ} → Sound s → key k ∈ s.now.table → k < length s.now.table
key_below i h = omega (arith, few_keys i, i.counted.keys_counted h)
