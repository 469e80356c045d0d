-- The names of the code's policies are those of the rules' policies. Rests on the definitions alone.
use Prim.Native.Nat.{ℕ}
use mathlib.Core.Path.{◌≡◌, refl, sym, ap, ◌∙◌}
use mathlib.Core.List.{List}
use Rattle.rules.specs.Templates.{Policy, plain, stp, stp+}
use Rattle.sheets.specs.Reading.{read_policy}
use Rattle.shapes.specs.declared.policy.Policy.{Policy as Stored}
use Rattle.shapes.specs.declared.policy.Policy.TheVariants.{Plain, Stp, StpPlus}
use Rattle.shapes.specs.Policies.{stored_policy, policy_of}
use Rattle.text.specs.Text.{word, policy_name}

abbrev pub stored_name : Stored → List ℕ
stored_name Plain = word "plain"
stored_name Stp = word "stp"
stored_name StpPlus = word "stp+"

name_stored : (p : Policy) → stored_name (stored_policy p) ≡ policy_name p
unfolding stored_policy policy_name
name_stored plain = refl
name_stored stp = refl
name_stored stp+ = refl

pub named : (number : ℕ) {found policy : Stored} → found ≡ policy_of number → found ≡ policy
    → stored_name policy ≡ policy_name (read_policy number)
unfolding policy_of
named number from is = ap stored_name (sym is ∙ from) ∙ name_stored (read_policy number)
