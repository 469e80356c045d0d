-- `shapes::policy::Policy::from` meets its contract: 0, 1 and every other number name their policies. Assumes nothing.
use mathlib.Core.Path.{sym}
use Rattle.sheets.specs.Reading.{read_policy}
use borrow.Author.Rules.{rules}
use Rattle.shapes.specs.Policies.{stored_policy, policy_of}
use Rattle.shapes.proofs.Policies.{policy_from_2}
use Rattle.shapes.proofs.policy.PolicyFromU8.from.Goals as goal

pub returns-in-0 : goal.returns-in-0
unfolding policy_of stored_policy read_policy
returns-in-0 c = rw c.in-0.is

pub returns-in-1 : goal.returns-in-1
unfolding policy_of stored_policy read_policy
returns-in-1 c = rw c.in-1.is

pub returns-in_default : goal.returns-in_default
returns-in_default c = search (sym, policy_from_2, rules)
