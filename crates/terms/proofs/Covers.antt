-- What is asked of a table before following may decide working out by it: a token's table covers what its callers own and were
-- given. Rests on specs/Terms.antt.
use Prim.Native.Nat.{ℕ}
use mathlib.Core.List.{List}
use mathlib.Core.Logic.{◌⊎◌}
use Rattle.terms.specs.Lists.{◌∈◌}
use Rattle.terms.specs.Terms.{Term, Table, item, seal}

-- a data item, under any number of seals: it has no key in it to learn
pub data DataInside : Term → Type 0 where
  item_inside : {n : ℕ} → DataInside (item n)
  seal_inside : {k : ℕ} {m : Term} → DataInside m → DataInside (seal k m)

pub record Covers (own given : List Term) (table : Table) : Type 0 where
  -- the payload of a seal of the table is in the table
  pub payload_in : {k : ℕ} {m : Term} → seal k m ∈ table → m ∈ table
  -- the data items of the table were given
  pub items_given : {n : ℕ} → item n ∈ table → item n ∈ given
  -- the seals of the table were given
  pub seals_given : {k : ℕ} {m : Term} → seal k m ∈ table → seal k m ∈ given
  -- what is owned is in the table, or has only data inside
  pub own_in : {m : Term} → m ∈ own → (m ∈ table) ⊎ DataInside m
  -- what was given is in the table, or has only data inside
  pub given_in : {m : Term} → m ∈ given → (m ∈ table) ⊎ DataInside m
