-- What every function of `decide` is shown by: the tests on numbers, that a policy's number reads as that policy, and the definitions
-- that say which refusal is the first. With these the check finds each decision alone. Assumes nothing.
use mathlib.Core.Path.{◌≡◌, refl}
use Prim.Native.Nat.{ℕ, zero, suc}
use Rattle.std.proofs.lemmas.Bool.Decides.{nat_tests}
use Rattle.rules.specs.Refusals.{first, no_keys_encrypted}
use Rattle.sheets.specs.Reading.{read_policy}
use Rattle.shapes.specs.Policies.{stored_policy, policy_of}
use Rattle.deciding.specs.Tables.{policy_number}
use Rattle.deciding.specs.Decisions.{decided}

-- the policy of a number has a number that reads alike
pub policy_reads : (number : ℕ) → read_policy (policy_number (policy_of number)) ≡ read_policy number
unfolding read_policy policy_of stored_policy
policy_reads zero = refl
policy_reads (suc zero) = refl
policy_reads (suc (suc n)) = refl

pub ruleset tests = (nat_tests, policy_reads)

-- one name for the order of asking, to compute with
unfoldable pub asking_opened : Unit {0}
unfolding first no_keys_encrypted read_policy decided
asking_opened = tt
