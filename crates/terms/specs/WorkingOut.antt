-- Document 01, "Commands": a term is held when the caller can work it out. "A finite list of terms ends in it, each one being
-- the caller's own key or data, a term given, a seal of two earlier entries (the first a key), or the payload of an earlier
-- seal whose key is also earlier. Terms of that list need not be in the token's table."
-- A list is written with its last entry first: in `m ∷ earlier`, the entries before m are `earlier`. Assumes nothing.
use Rattle.std.specs.Prelude.{ℕ, List, [], ◌∷◌}
use Rattle.terms.specs.Lists.{◌∈◌}
use Rattle.terms.specs.Terms.{Term, key, seal}

-- what may stand next, after the entries `earlier`
pub data Entry (own given earlier : List Term) : Term → Type 0 where
  is_own : {m : Term} → m ∈ own → Entry own given earlier m
  is_given : {m : Term} → m ∈ given → Entry own given earlier m
  sealed : {k : ℕ} {m : Term} → key k ∈ earlier → m ∈ earlier → Entry own given earlier (seal k m)
  opened : {k : ℕ} {m : Term} → seal k m ∈ earlier → key k ∈ earlier → Entry own given earlier m

-- a list each of whose entries may stand after those before it
pub data Working (own given : List Term) : List Term → Type 0 where
  nothing : Working own given []
  then : {m : Term} {earlier : List Term} → Working own given earlier → Entry own given earlier m → Working own given (m ∷ earlier)

-- the caller can work m out: a working ends in it
pub record Held (own given : List Term) (m : Term) : Type 0 where
  pub earlier : List Term
  pub working : Working own given (m ∷ earlier)
