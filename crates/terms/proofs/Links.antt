-- The keys and the links that following reads off a list of terms are exactly those that stand there.
-- Rests on specs/Following.antt.
use Prim.Native.Nat.{ℕ}
use mathlib.Core.List.Memᴰ
use mathlib.Core.List.{List, [], ◌∷◌}
use mathlib.Core.Path.{refl, ap}
use Rattle.terms.specs.Lists.{◌∈◌}
use Rattle.terms.specs.Terms.{Term, item, key, seal}
use Rattle.terms.specs.Compromise.{Link, ◌under◌}
use Rattle.terms.specs.Following.{keys_of, links_of}

keys_more : {k : ℕ} (x : Term) (l : List Term) → k ∈ keys_of l → k ∈ keys_of (x ∷ l)
unfolding keys_of
keys_more (item n) l h = h
keys_more (key j) l h = Memᴰ.tail h
keys_more (seal j m) l h = h

-- a key of the list is among its keys
pub in_keys : {k : ℕ} {l : List Term} → key k ∈ l → k ∈ keys_of l
unfolding keys_of
in_keys {k} (Memᴰ.head q) = rw (← q) (Memᴰ.head {x = k} refl)
in_keys (Memᴰ.tail {x = x} {xs = l} h) = keys_more x l (in_keys h)

-- what is among the keys of a list is a key of it
pub keys_in : {k : ℕ} (l : List Term) → k ∈ keys_of l → key k ∈ l
unfolding keys_of
keys_in (item n ∷ l) h = Memᴰ.tail (keys_in l h)
keys_in {k = k} [] h = elim h [ ]
keys_in (key j ∷ l) (Memᴰ.head q) = Memᴰ.head (ap key q)
keys_in (key j ∷ l) (Memᴰ.tail h) = Memᴰ.tail (keys_in l h)
keys_in (seal j m ∷ l) h = Memᴰ.tail (keys_in l h)

links_more : {link : Link} (x : Term) (l : List Term) → link ∈ links_of l → link ∈ links_of (x ∷ l)
unfolding links_of
links_more (item n) l h = h
links_more (key j) l h = h
links_more (seal j (item n)) l h = h
links_more (seal j (key i)) l h = Memᴰ.tail h
links_more (seal j (seal i m)) l h = h

-- a key sealed directly under a key in the list is among its links
pub in_links : {j k : ℕ} {l : List Term} → seal k (key j) ∈ l → j under k ∈ links_of l
unfolding links_of
in_links {j} {k} (Memᴰ.head q) = rw (← q) (Memᴰ.head {x = j under k} refl)
in_links (Memᴰ.tail {x = x} {xs = l} h) = links_more x l (in_links h)

-- what is among the links of a list is a key sealed directly under a key there
pub links_in : {j k : ℕ} (l : List Term) → j under k ∈ links_of l → seal k (key j) ∈ l
unfolding links_of
links_in (item n ∷ l) h = Memᴰ.tail (links_in l h)
links_in {j = j} {k = k} [] h = elim h [ ]
links_in (key i ∷ l) h = Memᴰ.tail (links_in l h)
links_in (seal i (item n) ∷ l) h = Memᴰ.tail (links_in l h)
links_in {j} {k} (seal i (key n) ∷ l) (Memᴰ.head q) = Memᴰ.head {x = seal i (key n)} (cc)
links_in (seal i (key n) ∷ l) (Memᴰ.tail h) = Memᴰ.tail (links_in l h)
links_in (seal i (seal n m) ∷ l) h = Memᴰ.tail (links_in l h)
