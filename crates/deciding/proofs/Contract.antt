-- The contract of `decide` leaves no room: two answers that come to the same decision are one. Assumes nothing.
use mathlib.Core.Path.{◌≡◌, sym, ◌∙◌}
use Prim.Native.Nat.{ℕ}
use native.Mathlib.Omega.{arith}
use Rattle.std.specs.Prelude.{Result}
use Rattle.shapes.specs.declared.Command.{Command}
use Rattle.deciding.specs.declared.Done.{Done}
use Rattle.deciding.specs.declared.Refusal.{Refusal}
use Rattle.deciding.specs.declared.View.{View}
use Rattle.deciding.specs.Decisions.{comes_to, decided}

pub comes_to_unique : (r s : Result Done Refusal) → comes_to r ≡ comes_to s → r ≡ s
comes_to_unique r s same = grind arith

-- two results that meet the contract of `decide` are equal
pub decide_unique : (policy : ℕ) (command : Command) (view : View) (r s : Result Done Refusal) →
    comes_to r ≡ decided policy command view → comes_to s ≡ decided policy command view → r ≡ s
decide_unique policy command view r s a b = comes_to_unique r s (a ∙ sym b)
