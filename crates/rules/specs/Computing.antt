-- How a run is computed: the judge by following, the run step by step, the known list by asking of each key in turn. That
-- this is the run of Runs and the list of Known is proved (proofs/Computed.antt, proofs/KnownLists.antt); a reader who
-- believes those two files need not believe this one. Assumes nothing.
use Rattle.std.specs.Prelude.{ℕ, zero, suc, Bool, false, cond, List, [], ◌∷◌, ◌++◌}
use Rattle.std.proofs.Math.Option.{Option, none, some}
use Rattle.std.proofs.Math.ListN.{get_elem?}
use Rattle.terms.specs.Terms.{Term}
use Rattle.terms.specs.Lists.{is_in}
use Rattle.terms.specs.Following.{reached, held_by_following}
use Rattle.rules.specs.Templates.{Policy}
use Rattle.rules.specs.Commands.{Command}
use Rattle.rules.specs.State.{State, new_key}
use Rattle.rules.specs.Runs.{Answer, Outcome, step}

unfoldable pub judged : State → Option Term → Bool
judged s none = false
judged s (some m) = held_by_following s.past.own s.past.given s.now.table m

unfoldable pub judge : State → ℕ → Bool
judge s t = judged s (get_elem? s.now.table t)

unfoldable pub next_outcome : Policy → State → Command → Outcome
next_outcome p s c = step p (judge s) s c

unfoldable pub said_by : Policy → State → List Command → List Answer
said_by p s [] = []
said_by p s (c ∷ cs) = (next_outcome p s c).said ∷ said_by p (next_outcome p s c).next cs

unfoldable pub end_of : Policy → State → List Command → State
end_of p s [] = s
end_of p s (c ∷ cs) = end_of p (next_outcome p s c).next cs

-- the numbers below n that are in the list, ascending
unfoldable pub below_in : ℕ → List ℕ → List ℕ
below_in zero list = []
below_in (suc n) list = below_in n list ++ cond (is_in n list) (n ∷ []) []

unfoldable pub known_of : State → List ℕ
known_of s = below_in (new_key s.now) (reached s.past.own s.past.given s.now.table)
