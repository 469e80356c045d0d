-- Why demand 3 leaves the policy plain out: exercise A. A key with both W and D wraps another and then decrypts the seal, and the
-- caller has a key that is not compromised. Rests on the computed run.
use Prim.Native.Nat.{ℕ}
use mathlib.Core.Path.{◌≡◌, refl}
use mathlib.Core.List.Memᴰ
use mathlib.Core.List.{List, [], ◌∷◌}
use Rattle.terms.specs.Lists.{◌∈◌}
use Rattle.terms.specs.Terms.{key}
use Rattle.terms.specs.Compromise.{Link, Compromised, was_corrupted, is_own, was_wrapped}
use Rattle.terms.proofs.Derivation.{held_given}
use Rattle.rules.specs.Templates.{plain}
use Rattle.rules.specs.Commands.{Command, GENERATE, WRAP, DECRYPT}
use Rattle.rules.specs.State.{State, fresh}
use Rattle.rules.specs.Runs.{Reachable}
use Rattle.rules.specs.Known.{Known, IsCompromised}
use Rattle.rules.specs.Computing.{said_by, end_of}
use Rattle.rules.proofs.Computed.{has_run}
use Rattle.rules.proofs.Opened.{rules_opened}

-- with nothing corrupted and nothing owned, no key is compromised
none_compromised : {wraps : List Link} {k : ℕ} → Compromised [] [] wraps k → ⊥
none_compromised (was_corrupted h) = Memᴰ.not-nil h
none_compromised (is_own h) = Memᴰ.not-nil h
none_compromised (was_wrapped w c) = none_compromised c

-- exercise A
exercise_A : List Command
exercise_A = GENERATE 25 ∷ GENERATE 16 ∷ WRAP 0 1 ∷ DECRYPT 0 2 ∷ []

record Leaked (s : State) : Type 0 where
  pub nothing_corrupted : s.past.corrupted ≡ []
  pub nothing_owned : s.past.own ≡ []
  pub given_1 : key 1 ∈ s.past.given

leaked : Leaked (end_of plain fresh exercise_A)
unfolding exercise_A rules_opened
leaked = record { nothing_corrupted = refl; nothing_owned = refl; given_1 = Memᴰ.head refl }

-- in plain the caller can come to know a key that is not compromised
pub plain_differs : (s : State) × Reachable plain s × Known s 1 × (IsCompromised s 1 → ⊥)
plain_differs = (
  end_of plain fresh exercise_A,
  record { commands = exercise_A; said = said_by plain fresh exercise_A; run = has_run plain exercise_A },
  held_given leaked.given_1,
  λ c. none_compromised (rw (leaked.nothing_corrupted, leaked.nothing_owned) at c),
)
