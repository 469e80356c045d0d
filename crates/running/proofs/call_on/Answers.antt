-- `call_on` meets its contract: a call that is none answers 1, and any other is the step of the command that it states (CallShown).
use Rattle.running.proofs.CallShown.{no_call, call_steps, call_answered}
use mathlib.Core.Path.{sym, ◌∙◌}
use Rattle.running.proofs.call_on.Goals as goal

pub returns-in_default : goal.returns-in_default
returns-in_default c = no_call _ _ _ _ (sym c.call_of.ensures ∙ c.in_default.is)

pub step-requires : goal.step-requires
step-requires c = call_steps _ _ _ (λ i. (c.type_inv.body i).fits) (sym c.call_of.ensures ∙ c.in-Some.is) c.requires

pub returns : goal.returns
returns c = call_answered _ _ _ (λ i. (c.type_inv.body i).fits) (sym c.call_of.ensures ∙ c.in-Some.is) c.requires c.step.ensures
