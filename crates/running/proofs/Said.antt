-- What is said is known by its numbers: two results with the same answer and the same value are equal.
use mathlib.Core.Path.{◌≡◌}
use Prim.Native.Nat.{ℕ}
use native.Mathlib.Omega.{arith}
use Rattle.std.specs.Prelude.{Result}
use Rattle.deciding.specs.declared.Refusal.{Refusal}
use Rattle.running.specs.Said.{answer_of, value_of}

pub said_unique : (a b : Result ℕ Refusal) → answer_of a ≡ answer_of b → value_of a ≡ value_of b → a ≡ b
said_unique a b same values = grind arith
