-- A fresh token may be called under any policy at all: what a program has to know that is told the policy. Rests on running's Going.
use Prim.Native.Nat.{ℕ, zero, suc}
use native.Mathlib.Omega.{arith}
use Rattle.rules.specs.Templates.{plain, stp, stp+}
use Rattle.rules.specs.State.{fresh}
use Rattle.sheets.specs.Sheets.{policy_number}
use Rattle.running.specs.Direct.{Reached}
use Rattle.token.specs.Known.{blank_token}
use Rattle.running.proofs.Going.{comes_fresh, reached_fresh}

pub reached_begun : (policy : ℕ) → Reached blank_token policy
unfolding policy_number
reached_begun zero = reached_fresh plain
reached_begun (suc zero) = reached_fresh stp
reached_begun (suc (suc zero)) = reached_fresh stp+
reached_begun (suc (suc (suc above))) =
    record {
      under = plain;
      state = fresh;
      comes =
          record {
            reachable = (comes_fresh plain).reachable;
            shown = (comes_fresh plain).shown;
            this_policy = λ low. omega (arith, low);
          };
    }
