-- The book-keeping that every reachable state has, whatever the policy: what the table, the handles, the counts and what has
-- passed say of each other. Rests on the definitions alone.
use Prim.Native.Nat.{ℕ, ◌<◌}
use mathlib.Core.Path.{◌≡◌}
use mathlib.Core.Logic.{◌⊎◌}
use mathlib.Core.List.{List}
use mathlib.Core.Option.{some}
use lib.ListN.{get_elem?, length}
use Rattle.terms.specs.Lists.{◌∈◌}
use Rattle.terms.specs.Terms.{Term, Table, item, key, seal}
use Rattle.terms.specs.Compromise.{Link, ◌under◌}
use Rattle.terms.proofs.Covers.{DataInside}
use Rattle.rules.specs.State.{State, Slot, live, Origin, own, generated, Birth, ◌born◌, most_handles}

-- m has a number below i
pub record Earlier (table : Table) (i : ℕ) (m : Term) : Type 0 where
  pub place : ℕ
  pub is_lower : place < i
  pub is_there : get_elem? table place ≡ some m

-- "an equal term is never entered twice"; "a seal's two parts have lower numbers than the seal"
pub record Shape (table : Table) : Type 0 where
  pub once : {i j : ℕ} {m : Term} → get_elem? table i ≡ some m → get_elem? table j ≡ some m → i ≡ j
  pub key_earlier : {i k : ℕ} {m : Term} → get_elem? table i ≡ some (seal k m) → Earlier table i (key k)
  pub payload_earlier : {i k : ℕ} {m : Term} → get_elem? table i ≡ some (seal k m) → Earlier table i m

-- the terms of the table are in order, and its keys and items are those that were counted
pub record Counted (table : Table) (origins : List Origin) (items : ℕ) : Type 0 where
  pub shape : Shape table
  pub keys_counted : {k : ℕ} → key k ∈ table → k < length origins
  pub counted_keys : {k : ℕ} → k < length origins → key k ∈ table
  pub items_counted : {n : ℕ} → item n ∈ table → n < items

-- there are 256 handle numbers, and a live one stands for a key of the table
pub record Handled (handles : List Slot) (table : Table) : Type 0 where
  pub slots : length handles ≡ most_handles
  pub live_key : {k f : ℕ} → live k f ∈ handles → key k ∈ table

-- what the caller was given, and what was done
pub record Passed (table : Table) (owned given : List Term) (corrupted : List ℕ) (wraps : List Link) : Type 0 where
  pub items_given : {n : ℕ} → item n ∈ table → item n ∈ given
  pub seals_given : {k : ℕ} {m : Term} → seal k m ∈ table → seal k m ∈ given
  pub own_given : {m : Term} → m ∈ owned → m ∈ given
  pub given_in : {m : Term} → m ∈ given → (m ∈ table) ⊎ DataInside m
  pub corrupted_given : {k : ℕ} → k ∈ corrupted → key k ∈ given
  pub wrap_sealed : {j k : ℕ} → (j under k) ∈ wraps → seal k (key j) ∈ table

-- whose a key is, and the one flag byte that it was generated with
pub record Births (owned : List Term) (births : List Birth) (origins : List Origin) : Type 0 where
  pub own_origin : {k : ℕ} → key k ∈ owned → get_elem? origins k ≡ some own
  pub birth_origin : {k f : ℕ} → (k born f) ∈ births → get_elem? origins k ≡ some generated
  pub one_birth : {k f g : ℕ} → (k born f) ∈ births → (k born g) ∈ births → f ≡ g

pub record Sound (s : State) : Type 0 where
  pub counted : Counted s.now.table s.now.origins s.now.items
  pub handled : Handled s.now.handles s.now.table
  pub passed : Passed s.now.table s.past.own s.past.given s.past.corrupted s.past.wraps
  pub births : Births s.past.own s.past.births s.now.origins
