-- A run of commands followed by commands is a run of the first followed by a run of the others. Rests on the definitions alone.
use mathlib.Core.Path.{◌≡◌, refl, ap}
use mathlib.Core.Logic.{◌↔◌}
use mathlib.Core.List.{List, [], ◌∷◌, ◌++◌}
use lib.ListN.{length}
use Prim.Native.Nat.{suc}
use Rattle.rules.specs.Templates.{Policy}
use Rattle.rules.specs.Commands.{Command}
use Rattle.rules.specs.State.{State}
use Rattle.rules.specs.Runs.{Answer, Run, ends, then}

-- a run up to a state in the middle, and a run from there
pub record Parted (p : Policy) (s : State) (cs ds : List Command) (said : List Answer) (end : State) : Type 0 where
  pub middle : State
  pub before : List Answer
  pub later : List Answer
  pub all_said : said ≡ before ++ later
  pub first_run : Run p s cs before middle
  pub second_run : Run p middle ds later end

module _ {p : Policy} where
  -- a command has one answer each
  pub one_answer_each : {s end : State} {cs : List Command} {said : List Answer} → Run p s cs said end → length said ≡ length cs
  one_answer_each ends = refl
  one_answer_each (then st run) = ap suc (one_answer_each run)

  -- a run, and a run from its end, are one run
  pub run_append : {s middle end : State} {cs ds : List Command} {before later : List Answer} → Run p s cs before middle →
      Run p middle ds later end → Run p s (cs ++ ds) (before ++ later) end
  run_append ends more = more
  run_append (then st run) more = then st (run_append run more)

  -- a run of commands followed by commands comes to a state between them
  pub run_part : {s end : State} (cs : List Command) {ds : List Command} {said : List Answer} → Run p s (cs ++ ds) said end →
      Parted p s cs ds said end
  run_part [] run =
      record { middle = _; before = []; later = _; all_said = refl; first_run = ends; second_run = run }
  run_part (c ∷ cs) (then {a = a} st run) =
      let rest = run_part cs run in
      record {
        middle = rest.middle;
        before = a ∷ rest.before;
        later = rest.later;
        all_said = ap (λ (l : List Answer). a ∷ l) rest.all_said;
        first_run = then st rest.first_run;
        second_run = rest.second_run;
      }

  -- the two are one thing
  pub run_parted : {s end : State} (cs : List Command) {ds : List Command} {said : List Answer} →
      Run p s (cs ++ ds) said end ↔ Parted p s cs ds said end
  run_parted cs = (run_part cs, λ parts. rw parts.all_said (run_append parts.first_run parts.second_run))
