-- The list of known keys: "the list names each key the caller can work out, once, ascending, and no other". Assumes nothing.
use Rattle.std.specs.Prelude.{ℕ, ◌<◌, List, [], ◌∷◌}
use Rattle.terms.specs.Lists.{◌∈◌}
use Rattle.terms.specs.Terms.{key}
use Rattle.terms.specs.WorkingOut.{Held}
use Rattle.terms.specs.Compromise.{Compromised}
use Rattle.rules.specs.State.{State}

-- the caller can work key k out
abbrev pub Known : State → ℕ → Type 0
Known s k = Held s.past.own s.past.given (key k)

abbrev pub IsCompromised : State → ℕ → Type 0
IsCompromised s k = Compromised s.past.corrupted s.past.own s.past.wraps k

-- each number is greater than the one before it: in order, and none twice
pub data Ascending : List ℕ → Type 0 where
  none : Ascending []
  one : {k : ℕ} → Ascending (k ∷ [])
  more : {j k : ℕ} {list : List ℕ} → j < k → Ascending (k ∷ list) → Ascending (j ∷ k ∷ list)

pub record KnownList (s : State) (list : List ℕ) : Type 0 where
  pub ascending : Ascending list
  pub each : {k : ℕ} → Known s k → k ∈ list
  pub no_other : {k : ℕ} → k ∈ list → Known s k
