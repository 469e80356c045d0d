-- `exercise` may call at once: a fresh token comes from a fresh one by no calls. Rests on running's Going.
use Rattle.rules.specs.Templates.{plain}
use Rattle.sheets.specs.Sheets.{policy_number}
use Rattle.running.proofs.Going.{reached_fresh}
use Rattle.capacity.proofs.exercise.Goals as goal

pub loop-times-init : goal.loop-times-init
unfolding policy_number
loop-times-init g c = rw c.fresh-token.ensures (reached_fresh plain)
