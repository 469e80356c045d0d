-- The policy of a number is STP+ for every number that is neither 0 nor 1. Assumes nothing.
use mathlib.Core.Path.{◌≡◌, refl}
use Prim.Native.Nat.{ℕ, zero, suc}
use Rattle.sheets.specs.Reading.{read_policy}
use Rattle.shapes.specs.declared.policy.Policy.TheVariants.{StpPlus}
use Rattle.shapes.specs.Policies.{stored_policy, policy_of}

pub policy_from_2 : (number : ℕ) → (number ≡ 0 → ⊥) → (number ≡ 1 → ⊥) → policy_of number ≡ StpPlus
unfolding policy_of stored_policy read_policy
policy_from_2 zero f g = absurd (f refl)
policy_from_2 (suc zero) f g = absurd (g refl)
policy_from_2 (suc (suc n)) f g = refl
