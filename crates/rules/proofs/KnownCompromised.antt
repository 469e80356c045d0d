-- Demand 3 under STP and STP+: the known keys "are exactly the corrupted keys, the caller's own, and keys the token wrapped, step
-- by step, under one of these". One half holds under every policy. Rests on Roles.
use Prim.Native.Nat.{ℕ}
use mathlib.Core.Logic.{◌↔◌}
use Rattle.terms.specs.Compromise.{was_corrupted, is_own, was_wrapped}
use Rattle.terms.proofs.Derivation.{held_own, held_given, held_open}
use Rattle.rules.specs.Templates.{Policy, stp, stp+}
use Rattle.rules.specs.State.{State}
use Rattle.rules.specs.Runs.{Reachable}
use Rattle.rules.specs.Known.{Known, IsCompromised}
use Rattle.rules.proofs.Sound.{Sound}
use Rattle.rules.proofs.TemplateFacts.{Separates, stp_separates, stp+_separates}
use Rattle.rules.proofs.Roles.{known_compromised, reachable_roles}

-- under every policy, the caller can work out every compromised key
pub compromised_known : {s : State} {k : ℕ} → Sound s → IsCompromised s k → Known s k
compromised_known i (was_corrupted h) = held_given (i.passed.corrupted_given h)
compromised_known i (is_own h) = held_own h
compromised_known i (was_wrapped w c) = held_open (held_given (i.passed.seals_given (i.passed.wrap_sealed w))) (compromised_known i c)

-- where wrapping and decrypting are kept apart, the caller can work out exactly the compromised keys
pub known_is_compromised : {p : Policy} {s : State} {k : ℕ} → Separates p → Reachable p s → Known s k ↔ IsCompromised s k
known_is_compromised sep reachable =
    let (i, r) = reachable_roles sep reachable in
    (λ known. known_compromised i r known, λ c. compromised_known i c)

-- under STP the known keys "are exactly the corrupted keys, the caller's own, and keys the token wrapped, step by step, under
-- one of these"
pub stp_known : {s : State} {k : ℕ} → Reachable stp s → Known s k ↔ IsCompromised s k
stp_known reachable = known_is_compromised stp_separates reachable

-- under STP+ too
pub stp+_known : {s : State} {k : ℕ} → Reachable stp+ s → Known s k ↔ IsCompromised s k
stp+_known reachable = known_is_compromised stp+_separates reachable
