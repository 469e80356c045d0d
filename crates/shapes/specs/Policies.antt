-- A policy of the code, for a policy of the rules, and for a number. Assumes nothing.
use Rattle.std.specs.Prelude.{ℕ}
use Rattle.rules.specs.Templates.{Policy, plain, stp, stp+}
use Rattle.sheets.specs.Reading.{read_policy}
use Rattle.shapes.specs.declared.policy.Policy.{Policy as Stored}
use Rattle.shapes.specs.declared.policy.Policy.TheVariants.{Plain, Stp, StpPlus}

unfoldable pub stored_policy : Policy → Stored
stored_policy plain = Plain
stored_policy stp = Stp
stored_policy stp+ = StpPlus

unfoldable pub policy_of : (number : ℕ) → Stored
policy_of number = stored_policy (read_policy number)
