-- Each command of a run, with its answer and the states before and after it: all that holds of a step holds of every command that a
-- report speaks of. Rests on running's Going.
use Prim.Native.Nat.{ℕ, zero, suc}
use native.Mathlib.Omega.{arith}
use mathlib.Core.Path.{◌≡◌, refl, subst}
use mathlib.Core.List.{List}
use mathlib.Core.Option.{some}
use lib.ListN.{get_elem?}
use Rattle.rules.specs.Templates.{Policy}
use Rattle.rules.specs.Commands.{Command}
use Rattle.rules.specs.State.{State}
use Rattle.rules.specs.Runs.{Answer, Step, Run, ends, then, Reachable}
use Rattle.running.proofs.Going.{reachable_next}

-- command c, answered by the answer with i answers before it
pub record Stepped (p : Policy) (c : Command) (said : List Answer) (i : ℕ) : Type 0 where
  pub before : State
  pub after : State
  pub answered : Answer
  pub stands : get_elem? said i ≡ some answered
  pub reached : Reachable p before
  pub step : Step p before c answered after

same_command : {c d : Command} → some c ≡ some d → c ≡ d
same_command e = cc

-- each command of a run is a step from a state that is reached
pub each_command : {p : Policy} {s end : State} {cs : List Command} {said : List Answer} → Reachable p s → Run p s cs said end
    → (i : ℕ) (c : Command)
    → get_elem? cs i ≡ some c
    → Stepped p c said i
each_command r ends i c e = absurd (let z : ◌≡◌ {A = ℕ} 0 1 = cc in omega arith)
each_command {p} {s} r (then {next = next} {a = a} st run) zero c e =
    record {
      before = s;
      after = next;
      answered = a;
      stands = refl;
      reached = r;
      step = subst (λ (d : Command). Step p s d a next) (same_command e) st;
    }
each_command r (then st run) (suc i) c e =
    let later = each_command (reachable_next r st) run i c e in
    record {
      before = later.before;
      after = later.after;
      answered = later.answered;
      stands = later.stands;
      reached = later.reached;
      step = later.step;
    }
