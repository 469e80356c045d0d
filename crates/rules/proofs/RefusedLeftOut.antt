-- "A refusal has value 0, and every later command behaves as if the refused one had not been there, save for its own line and the
-- tally": a run with a refused command in it is the run without it, with one answer put in between. Rests on Prefixes and Steps.
use native.Mathlib.Omega.{arith}
use mathlib.Core.Path.{◌≡◌, sym, subst}
use mathlib.Core.List.{List, [], ◌∷◌, ◌++◌}
use lib.ListN.{length}
use Rattle.rules.specs.Templates.{Policy}
use Rattle.rules.specs.Commands.{Command}
use Rattle.rules.specs.State.{State}
use Rattle.rules.specs.Runs.{Answer, Step, Run, ends, then}
use Rattle.rules.proofs.Steps.{step_unique, refused_leaves}
use Rattle.rules.proofs.Prefixes.{run_append}

-- what runs on after a refused command runs on from before it: the state is the same
goes_on : {p : Policy} {s next end : State} {c : Command} {ds : List Command} {a : Answer} {later : List Answer} → Step p s c a next →
    ¬ (a.answer ≡ 0) → Run p next ds later end → Run p s ds later end
goes_on {p} {end = end} {ds = ds} {later = later} st refused run =
    subst (λ (x : State). Run p x ds later end) (refused_leaves st refused).1 run

-- of every run with a command in it: if that command was refused, the run without it gives every other command the same answer, and
-- has the same end
pub refused_left_out : {p : Policy} {s end : State} (cs : List Command) (c : Command) (ds : List Command) (before : List Answer)
    (a : Answer) (later : List Answer) → Run p s (cs ++ c ∷ ds) (before ++ a ∷ later) end → length before ≡ length cs →
    ¬ (a.answer ≡ 0) → Run p s (cs ++ ds) (before ++ later) end
refused_left_out [] c ds [] a later (then st run) same refused = goes_on st refused run
refused_left_out [] c ds (b ∷ before) a later run same refused = absurd (omega arith)
refused_left_out (d ∷ cs) c ds [] a later run same refused = absurd (omega arith)
refused_left_out (d ∷ cs) c ds (b ∷ before) a later (then st run) same refused =
    then st (refused_left_out cs c ds before a later run (omega arith) refused)

-- a run that begins as another one goes on from where that one ends
run_on : {p : Policy} {s middle end : State} {cs : List Command} (ds : List Command) {before : List Answer} (later : List Answer) →
    Run p s cs before middle → Run p s (cs ++ ds) (before ++ later) end → Run p middle ds later end
run_on ds later ends run = run
run_on {p} {end = end} ds later (then {cs = cs} {said = said} st first) (then st' run) =
    run_on ds later first (subst (λ (x : State). Run p x (cs ++ ds) (said ++ later) end) (step_unique st' st).1 run)

-- the other way round: where a command is refused at a state that a run comes to, the run with that command there gives every other
-- command the same answer, and has the same end
pub refused_put_in : {p : Policy} {s middle next end : State} {cs : List Command} {c : Command} (ds : List Command)
    {before : List Answer} {a : Answer} (later : List Answer) → Run p s (cs ++ ds) (before ++ later) end →
    Run p s cs before middle → Step p middle c a next → ¬ (a.answer ≡ 0) → Run p s (cs ++ c ∷ ds) (before ++ a ∷ later) end
refused_put_in {p} {end = end} ds later run first st refused =
    run_append first
    (then st (subst (λ (x : State). Run p x ds later end) (sym (refused_leaves st refused).1) (run_on ds later first run)))
