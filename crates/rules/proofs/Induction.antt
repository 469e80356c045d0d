-- What holds of a fresh token and is kept by every done command holds of every reachable state. A refused command is no case:
-- it leaves the state. Rests on Done.
use Prim.Native.Nat.{ℕ, zero, suc}
use mathlib.Core.Path.{◌≡◌, refl, ap, subst}
use mathlib.Core.Bool.{Bool}
use mathlib.Core.List.{List}
use Rattle.rules.specs.Templates.{Policy}
use Rattle.rules.specs.Commands.{Command}
use Rattle.rules.specs.State.{State, fresh}
use Rattle.rules.specs.Changes.{after}
use Rattle.rules.specs.Refusals.{refusals, first}
use Rattle.rules.specs.Runs.{Answer, Outcome, outcome, step, Judge, Step, Run, ends, then, Reachable}
use Rattle.rules.proofs.Done.{Done, done}

-- kept by every done command under the policy
abbrev pub Kept : Policy → (State → Type 0) → Type 0
Kept p I = (s : State) (c : Command) (held : ℕ → Bool) → Judge s held → Done p held s.now c → I s → I (after s c)

outcome_kept : (I : State → Type 0) (s : State) (c : Command) (n : ℕ) → I s → (n ≡ 0 → I (after s c)) → I (outcome s c n).next
unfolding outcome
outcome_kept I s c zero i kept = kept refl
outcome_kept I s c (suc n) i kept = i

pub step_kept : {p : Policy} (I : State → Type 0) → Kept p I → {s next : State} {c : Command} {a : Answer} → Step p s c a next → I s → I next
unfolding step
step_kept {p} I kept {s} {next} {c} {a} st i =
    subst I (ap (λ (o : Outcome). o.next) st.is_step)
    (outcome_kept I s c (first (refusals p st.held s.now c)) i (λ e. kept s c st.held st.judges (done p st.held s.now c e) i))

pub run_kept : {p : Policy} (I : State → Type 0) → Kept p I → {s end : State} {cs : List Command} {said : List Answer} → Run p s cs said end → I s → I end
run_kept I kept ends i = i
run_kept I kept (then st run) i = run_kept I kept run (step_kept I kept st i)

pub reachable_has : {p : Policy} (I : State → Type 0) → I fresh → Kept p I → {s : State} → Reachable p s → I s
reachable_has I base kept r = run_kept I kept r.run base
