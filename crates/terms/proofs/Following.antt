-- Following, as specs/Following.antt computes it, gives exactly the keys reached: it goes only to keys of the smallest set, and
-- with as many turns as there are links nothing is left to follow. Rests on proofs/Links.antt and proofs/Finding.antt.
use Prim.Native.Nat.{ℕ, zero, suc, ◌≤◌}
use native.Mathlib.Nat.{not-suc-le-zero, le_refl}
use native.Mathlib.Omega.{arith}
use mathlib.Core.List.Memᴰ
use mathlib.Core.List.{List, [], ◌∷◌, ◌++◌}
use mathlib.Core.Logic.{⊎_elim}
use mathlib.Core.Option.{Option, none, some}
use mathlib.Core.Path.{◌≡◌}
use lib.ListN.{length}
use Rattle.terms.specs.Lists.{◌∈◌}
use Rattle.terms.specs.Terms.{Term, Table}
use Rattle.terms.specs.Compromise.{Link, ◌under◌}
use Rattle.terms.specs.Following.{Reached, own_key, given_key, under_key, keys_of, links_of, Found, find, follow, reached}
use Rattle.terms.proofs.Lists.{◌⊆◌}
use Rattle.terms.proofs.Links.{in_keys, keys_in, in_links, links_in}
use Rattle.terms.proofs.Finding.{Finds, Searched, no_link, a_link, searched}

-- following as turns: one link after the other whose outer key is known, until there is none
pub data Followed : List ℕ → List Link → List ℕ → Type 0 where
  done : {known : List ℕ} {links : List Link} → ((j k : ℕ) → j under k ∈ links → k ∈ known → ⊥) → Followed known links known
  turn : {known : List ℕ} {links : List Link} {found : Found} {result : List ℕ} → Finds known links found →
      Followed (found.inner ∷ known) found.others result → Followed known links result

-- with as many turns as there are links, following comes to its end
pub follow_followed : (turns : ℕ) (known : List ℕ) (links : List Link) → length links ≤ turns →
    Followed known links (follow turns known links)
unfolding follow
follow_followed zero known [] h = done (λ j k l m. Memᴰ.not-nil l)
follow_followed zero known (link ∷ links) h = absurd (not-suc-le-zero h)
follow_followed (suc turns) known links h = go (find known links) (searched known links) (follow_followed turns)
  where
    go : (r : Option Found) → Searched known links r →
        ((k : List ℕ) (l : List Link) → length l ≤ turns → Followed k l (follow turns k l)) →
        Followed known links (elim r as (λ x. List ℕ)
        [ none ↦ known | some found ↦ follow turns (found.inner ∷ known) found.others ])
    go none (no_link none_known) ih = done none_known
    go (some found) (a_link f) ih =
        let shorter : length links ≡ suc (length found.others) = f.shorter in
        turn f (ih (found.inner ∷ known) found.others (omega arith))

-- following stays within any set of keys that has the known ones and, with the outer key of a link, the inner one
pub followed_sound : (P : ℕ → Type 0) {known : List ℕ} {links : List Link} {result : List ℕ} → Followed known links result →
    ((k : ℕ) → k ∈ known → P k) → ((j k : ℕ) → j under k ∈ links → P k → P j) → (k : ℕ) → k ∈ result → P k
followed_sound P (done n) start step = start
followed_sound P (turn {known = known} {found = found} f rest) start step =
    followed_sound P rest next (λ j k l. step j k (f.others_in (j under k) l))
  where
    next : (k : ℕ) → k ∈ (found.inner ∷ known) → P k
    next k (Memᴰ.head q) = rw q (step found.inner f.outer f.link_in (start f.outer f.outer_in))
    next k (Memᴰ.tail m) = start k m

-- the known keys are in the result, and nothing is left to follow: with the outer key of a link the inner one is there too
pub record Closed (known : List ℕ) (links : List Link) (result : List ℕ) : Type 0 where
  pub known_in : known ⊆ result
  pub nothing_left : (j k : ℕ) → j under k ∈ links → k ∈ result → j ∈ result

-- where following has come to its end, nothing is left to follow
pub followed_closed : {known : List ℕ} {links : List Link} {result : List ℕ} → Followed known links result →
    Closed known links result
followed_closed (done n) = record { known_in = λ x m. m; nothing_left = λ j k l m. absurd (n j k l m) }
followed_closed (turn {known = known} {links = links} {found = found} {result = result} f rest) = go (followed_closed rest)
  where
    go : Closed (found.inner ∷ known) found.others result → Closed known links result
    go c = record {
      known_in = λ x m. c.known_in x (Memᴰ.tail m);
      nothing_left = λ j k l m.
          ⊎_elim (λ (q : j under k ≡ found.inner under f.outer). c.known_in j (Memᴰ.head {x = found.inner} (cc)))
          (λ o. c.nothing_left j k o m) (f.all_there (j under k) l);
    }

-- following with as many turns as there are links leaves nothing to follow
pub follow_closed : (turns : ℕ) (known : List ℕ) (links : List Link) → length links ≤ turns →
    Closed known links (follow turns known links)
follow_closed turns known links h = followed_closed (follow_followed turns known links h)

module _ (own given : List Term) (table : Table) where
  -- what following gives, it came to by turns, to the end
  reached_followed : Followed (keys_of own ++ keys_of given) (links_of table) (reached own given table)
  unfolding reached
  reached_followed = follow_followed _ _ _ (le_refl _)

module _ {own given : List Term} {table : Table} where
  -- a key that following gives is reached
  pub in_reached : {k : ℕ} → k ∈ reached own given table → Reached own given table k
  in_reached {k} h =
      followed_sound (Reached own given table) (reached_followed own given table)
      (λ i m. ⊎_elim (λ o. own_key (keys_in own o)) (λ g. given_key (keys_in given g)) (Memᴰ.append_cases (keys_of own) m))
      (λ j o l r. under_key (links_in table l) r) k h

  -- a key reached is given by following
  pub reached_in : {k : ℕ} → Reached own given table k → k ∈ reached own given table
  reached_in r = go (followed_closed (reached_followed own given table)) r
    where
      go : Closed (keys_of own ++ keys_of given) (links_of table) (reached own given table) → {k : ℕ} →
          Reached own given table k → k ∈ reached own given table
      go c (own_key h) = c.known_in _ (Memᴰ.append_left (keys_of given) (in_keys h))
      go c (given_key h) = c.known_in _ (Memᴰ.append_right (keys_of own) (in_keys h))
      go c (under_key s r) = c.nothing_left _ _ (in_links s) (go c r)
