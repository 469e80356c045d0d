-- One turn of following: either no link has its outer key known, or one such link is found and all the others are kept.
-- Rests on specs/Following.antt.
use Prim.Native.Nat.{ℕ, suc}
use mathlib.Core.Bool.{Bool, true, false, true≢false}
use mathlib.Core.List.Memᴰ
use mathlib.Core.List.{List, [], ◌∷◌}
use mathlib.Core.Logic.{◌⊎◌, inl, inr, ⊎_elim}
use mathlib.Core.Option.{Option, none, some}
use mathlib.Core.Path.{◌≡◌, refl, sym, ap, ◌∙◌}
use lib.ListN.{length}
use Rattle.terms.specs.Lists.{◌∈◌, is_in}
use Rattle.terms.specs.Compromise.{Link, ◌under◌}
use Rattle.terms.specs.Following.{Found, found_or, outer_known, find}
use Rattle.terms.proofs.Lists.{◌⊆◌, is_in_true, in_is_in}

-- a found link: its outer key is known, and the links besides are all the others
pub record Finds (known : List ℕ) (links : List Link) (found : Found) : Type 0 where
  pub outer : ℕ
  pub outer_in : outer ∈ known
  pub link_in : found.inner under outer ∈ links
  pub all_there : (x : Link) → x ∈ links → (x ≡ found.inner under outer) ⊎ (x ∈ found.others)
  pub others_in : found.others ⊆ links
  pub shorter : length links ≡ suc (length found.others)

-- no link has its outer key known, or a link is found
pub data Searched (known : List ℕ) (links : List Link) : Option Found → Type 0 where
  no_link : ((j k : ℕ) → j under k ∈ links → k ∈ known → ⊥) → Searched known links none
  a_link : {found : Found} → Finds known links found → Searched known links (some found)

-- whether the first link has its outer key known or not, the search goes on as it should
search_or : {known : List ℕ} {links : List Link} {later : Option Found} (j k : ℕ) (b : Bool) → is_in k known ≡ b →
    Searched known links later → Searched known ((j under k) ∷ links) (found_or b (j under k) links later)
unfolding found_or
search_or {known} j k true e s = a_link (record {
  outer = k;
  outer_in = is_in_true k known e;
  link_in = Memᴰ.head refl;
  all_there = λ x h. Memᴰ.cases_cons h;
  others_in = λ x h. Memᴰ.tail h;
  shorter = refl;
})
search_or {known} {links} j k false e (no_link none_known) = no_link none_here
  where
    none_here : (i o : ℕ) → i under o ∈ ((j under k) ∷ links) → o ∈ known → ⊥
    none_here i o (Memᴰ.head q) h = let p : k ≡ o = cc in true≢false (sym (in_is_in (Memᴰ.cast p h)) ∙ e)
    none_here i o (Memᴰ.tail m) h = none_known i o m h
search_or {known} {links} j k false e (a_link {found = found} f) = a_link (record {
  outer = f.outer;
  outer_in = f.outer_in;
  link_in = Memᴰ.tail f.link_in;
  all_there = split;
  others_in = kept;
  shorter = ap suc f.shorter;
})
  where
    split : (x : Link) → x ∈ ((j under k) ∷ links) → (x ≡ found.inner under f.outer) ⊎ (x ∈ ((j under k) ∷ found.others))
    split x (Memᴰ.head q) = inr (Memᴰ.head q)
    split x (Memᴰ.tail h) = ⊎_elim inl (λ o. inr (Memᴰ.tail o)) (f.all_there x h)

    kept : ((j under k) ∷ found.others) ⊆ ((j under k) ∷ links)
    kept x (Memᴰ.head q) = Memᴰ.head q
    kept x (Memᴰ.tail h) = Memᴰ.tail (f.others_in x h)

-- the search is what it is said to be
pub searched : (known : List ℕ) (links : List Link) → Searched known links (find known links)
unfolding find outer_known
searched known [] = no_link (λ j k h. absurd (Memᴰ.not-nil h))
searched known ((j under k) ∷ links) = search_or j k (is_in k known) refl (searched known links)
