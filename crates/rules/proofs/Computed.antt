-- Every list of commands has a run from a fresh token, and only one: the computed one. Rests on Judging, SoundKept and Steps.
use mathlib.Core.Path.{◌≡◌, refl}
use mathlib.Core.List.{List, [], ◌∷◌}
use Rattle.rules.specs.Templates.{Policy}
use Rattle.rules.specs.Commands.{Command}
use Rattle.rules.specs.State.{State, fresh}
use Rattle.rules.specs.Runs.{Answer, Step, Run, ends, then}
use Rattle.rules.specs.Computing.{judge, next_outcome, said_by, end_of}
use Rattle.rules.proofs.Induction.{step_kept}
use Rattle.rules.proofs.Sound.{Sound}
use Rattle.rules.proofs.SoundKept.{sound_fresh, sound_kept}
use Rattle.rules.proofs.Judging.{judge_judges}
use Rattle.rules.proofs.Steps.{run_unique}

module _ {p : Policy} where
  -- in a sound state each command has its computed step
  pub computed_step : {s : State} → Sound s → (c : Command) → Step p s c (next_outcome p s c).said (next_outcome p s c).next
  unfolding next_outcome
  computed_step {s} i c = record { held = judge s; judges = judge_judges i; is_step = refl }

  -- and each list of commands its computed run
  pub computed_run : {s : State} → Sound s → (cs : List Command) → Run p s cs (said_by p s cs) (end_of p s cs)
  unfolding said_by end_of
  computed_run i [] = ends
  computed_run {s = s} i (c ∷ cs) =
      let st = computed_step i c in
      then st (computed_run {s = (next_outcome p s c).next} (step_kept Sound (sound_kept p) st i) cs)

-- every list of commands has a run from a fresh token
pub has_run : (p : Policy) (cs : List Command) → Run p fresh cs (said_by p fresh cs) (end_of p fresh cs)
has_run p cs = computed_run sound_fresh cs

-- and no other than the computed one
pub the_run : {p : Policy} {cs : List Command} {said : List Answer} {end : State} → Run p fresh cs said end →
    (said ≡ said_by p fresh cs) × (end ≡ end_of p fresh cs)
the_run {p} {cs} run = run_unique run (has_run p cs)
