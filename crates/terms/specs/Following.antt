-- How working out is computed: from the own and the given keys, follow "key sealed directly under key" through the table, in
-- whatever order the seals stand, until no link is left whose outer key is known. That this is working out is proved
-- (proofs/Decision.antt); a reader who believes WorkingOut need not believe this file. Assumes nothing.
use Rattle.std.specs.Prelude.{ℕ, zero, suc, Bool, true, false, List, [], ◌∷◌, ◌++◌, length}
use Rattle.std.proofs.Math.Option.{Option, none, some}
use Rattle.terms.specs.Lists.{◌∈◌, is_in}
use Rattle.terms.specs.Terms.{Term, Table, item, key, seal}
use Rattle.terms.specs.Compromise.{Link, ◌under◌}

-- the keys reached: the smallest set with the own keys, the given keys, and each key sealed directly under one of the set
pub data Reached (own given : List Term) (table : Table) : ℕ → Type 0 where
  own_key : {k : ℕ} → key k ∈ own → Reached own given table k
  given_key : {k : ℕ} → key k ∈ given → Reached own given table k
  under_key : {inner outer : ℕ} → seal outer (key inner) ∈ table → Reached own given table outer → Reached own given table inner

unfoldable pub keys_of : List Term → List ℕ
keys_of [] = []
keys_of (item n ∷ list) = keys_of list
keys_of (key k ∷ list) = k ∷ keys_of list
keys_of (seal k m ∷ list) = keys_of list

unfoldable pub links_of : List Term → List Link
links_of [] = []
links_of (item n ∷ list) = links_of list
links_of (key k ∷ list) = links_of list
links_of (seal k (item n) ∷ list) = links_of list
links_of (seal k (key j) ∷ list) = (j under k) ∷ links_of list
links_of (seal k (seal j m) ∷ list) = links_of list

-- a link whose outer key is known: its inner key, and the links besides
pub record Found : Type 0 where
  pub inner : ℕ
  pub others : List Link

unfoldable pub found_or : Bool → Link → List Link → Option Found → Option Found
found_or true (j under k) links later = some (record { inner = j; others = links })
found_or false link links none = none
found_or false link links (some found) = some (record { inner = found.inner; others = link ∷ found.others })

unfoldable pub outer_known : List ℕ → Link → Bool
outer_known known (j under k) = is_in k known

unfoldable pub find : List ℕ → List Link → Option Found
find known [] = none
find known (link ∷ links) = found_or (outer_known known link) link links (find known links)

-- every link is followed at most once, so their number is as many turns as can be wanted
unfoldable pub follow : (turns : ℕ) → List ℕ → List Link → List ℕ
follow zero known links = known
follow (suc turns) known links = elim (find known links) [ none ↦ known | some found ↦ follow turns (found.inner ∷ known) found.others ]

unfoldable pub reached : (own given : List Term) → Table → List ℕ
reached own given table = follow (length (links_of table)) (keys_of own ++ keys_of given) (links_of table)

-- the answer of following for a term of the table: data items and seals are held, a key if it is reached
unfoldable pub held_by_following : (own given : List Term) → Table → Term → Bool
held_by_following own given table (item n) = true
held_by_following own given table (key k) = is_in k (reached own given table)
held_by_following own given table (seal k m) = true
