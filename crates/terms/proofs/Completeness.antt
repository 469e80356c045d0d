-- A key that can be worked out is reached by following, whatever terms the working goes through. A message is called good
-- where opening it with reached keys gives reached keys only; own and given messages are good, and sealing and opening keep
-- messages good. Rests on proofs/Derivation.antt.
use Prim.Native.Nat.{ℕ}
use mathlib.Core.List.{List}
use mathlib.Core.Logic.{◌⊎◌, inl, inr}
use mathlib.Core.Path.{◌≡◌, refl}
use Rattle.terms.specs.Lists.{◌∈◌}
use Rattle.terms.specs.Terms.{Term, Table, item, key, seal}
use Rattle.terms.specs.WorkingOut.{Held}
use Rattle.terms.specs.Following.{Reached, own_key, given_key, under_key}
use Rattle.terms.proofs.Covers.{Covers, DataInside, item_inside, seal_inside}
use Rattle.terms.proofs.Derivation.{Derives, from_own, from_given, sealing, opening, held_derives}

-- opened with reached keys, the message gives reached keys only
abbrev Good : (own given : List Term) → Table → Term → Type 0
Good own given table (item n) = Unit {0}
Good own given table (key k) = Reached own given table k
Good own given table (seal k m) = Reached own given table k → Good own given table m

module _ {own given : List Term} {table : Table} (c : Covers own given table) where
  -- data is good under any seals
  data_good : {m : Term} → DataInside m → Good own given table m
  data_good item_inside = tt
  data_good (seal_inside d) = λ r. data_good d

  -- a seal of the table is good: a key inside is reached once the seal's key is
  table_good : (k : ℕ) (m : Term) → seal k m ∈ table → Good own given table (seal k m)
  table_good k (item n) s = λ r. tt
  table_good k (key j) s = λ r. under_key s r
  table_good k (seal j m) s = λ r. table_good j m (c.payload_in s)

  -- what stands in the table or has only data inside is good, if its keys are reached
  known_good : (m : Term) → ((k : ℕ) → m ≡ key k → Reached own given table k) → (m ∈ table) ⊎ DataInside m →
      Good own given table m
  known_good (item n) h w = tt
  known_good (key k) h w = h k refl
  known_good (seal k m) h (inl s) = table_good k m s
  known_good (seal k m) h (inr d) = data_good d

  -- every message that can be worked out is good
  derived_good : {m : Term} → Derives own given m → Good own given table m
  derived_good (from_own {m = m} h) = known_good m (λ k q. own_key (rw q at h)) (c.own_in h)
  derived_good (from_given {m = m} h) = known_good m (λ k q. given_key (rw q at h)) (c.given_in h)
  derived_good (sealing a b) = λ r. derived_good b
  derived_good (opening a b) = derived_good a (derived_good b)

  -- each key held is reached
  pub held_reached : {k : ℕ} → Held own given (key k) → Reached own given table k
  held_reached h = derived_good (held_derives h)
