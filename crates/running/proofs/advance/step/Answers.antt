-- `step` meets its contract: a refusal says its number and value 0, and changes nothing.
use mathlib.Core.Path.{◌∙◌}
use Rattle.std.proofs.lemmas.Result.{err_from_is_err_and}
use Rattle.running.proofs.StepShown.{refused_stepped}
use Rattle.running.proofs.advance.step.Goals as goal

pub returns-in_err-done : goal.returns-in_err-done
returns-in_err-done c =
    let p = err_from_is_err_and c.from_residual.result c.from_residual.ensures.1 in
    rw (p.1, p.2) (refused_stepped _ _ (c.in_err-done.ensures ∙ c.look.ensures c.args.policy))
