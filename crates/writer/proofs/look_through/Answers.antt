-- `look_through` meets its contract (Looking). Assumes nothing.
use native.Mathlib.Omega.{arith}
use mathlib.Core.Path.{ap, ◌∙◌}
use lib.ListN.{length}
use Rattle.std.specs.Prelude.{Err}
use Rattle.std.proofs.Common.{rules}
use Rattle.std.proofs.lemmas.Result.{err_from_is_err_and}
use Rattle.sheets.specs.Sheets.{bodies_begin}
use Rattle.writer.proofs.Commands.{ok_found, err_found}
use Rattle.writer.proofs.Handed.{bytes_by_place, body_short}
use Rattle.writer.proofs.Looking.{policy_above, too_many, looking_none, looking_fault, looking_next, looking_small, looking_all}
use Rattle.writer.proofs.look_through.Goals as goal

pub returns-then-policy-gt-MOST_POLICY : goal.returns-then-policy-gt-MOST_POLICY
returns-then-policy-gt-MOST_POLICY c = search (rules, policy_above, too_many)

pub loop-i-init : goal.loop-i-init
unfolding bodies_begin
loop-i-init c = rw c.bodies_begin-long.ensures (looking_none _ _ _ c.if-policy-gt-MOST_POLICY.false c.if-count-gt-MOST_COMMANDS.false)

pub returns-in_err-command : goal.returns-in_err-command
returns-in_err-command c =
    let (error, answered, same) = err_from_is_err_and c.from_residual.result c.from_residual.ensures.1 in
    let (none, named) = err_found _ _ _ _ _ c.in_err-command.ensures.value c.command_at.ensures in
    answered ∙ ap Err (same ∙ named) ∙ looking_fault _ _ _ _ _ c.loop-i.invariant c.loop-i-test.true (none _ _) _

pub overflow_add-long : goal.overflow_add-long
overflow_add-long c =
    let (held, numbered, same) = ok_found _ _ _ _ _ c.in_ok-command.ensures.value c.command_at.ensures in
    omega (arith, looking_small _ _ _ _ _ c.loop-i.invariant, body_short _ _ held, ap length same)

pub loop-i-preserved : goal.loop-i-preserved
loop-i-preserved c =
    let (held, numbered, same) = ok_found _ _ _ _ _ c.in_ok-command.ensures.value c.command_at.ensures in
    looking_next _ _ _ _ _ c.loop-i.invariant (bytes_by_place _ (λ i. (c.type_inv.handed i).fits)) c.loop-i-test.true held _ same

pub returns : goal.returns
returns c = looking_all _ _ _ _ _ c.loop-i.invariant c.loop-i-test.false
