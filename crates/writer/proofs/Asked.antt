-- What is written is a sheet: where nothing is named that no sheet can hold, the bytes are the sheet of the commands that are
-- handed over, under the policy. Rests on Handed.
use Prim.Native.Nat.{ℕ, zero, suc, ◌≤◌}
use native.Mathlib.Omega.{arith}
use mathlib.Core.Path.{◌≡◌, refl}
use mathlib.Core.List.{List, [], ◌∷◌}
use mathlib.Core.Option.{none}
use Rattle.sheets.specs.Bytes.{Bytes}
use Rattle.sheets.specs.Sheets.{Holdable, Sheet}
use Rattle.sheets.specs.Reading.{read_policy}
use Rattle.sheets.proofs.Each.{Each, each_nil, each_cons, each_append}
use Rattle.writer.specs.Writer.{handed_commands, first_unholdable, asked_sheet}
use Rattle.writer.specs.Parts.{AllHeld}
use Rattle.writer.proofs.Handed.{handed_command, all_held, handed_count, handed_holdable}

-- a sheet can hold each command
each_holdable : (handed : List ℕ) → Bytes handed → (n : ℕ) → AllHeld n handed → (i : ℕ) → i ≤ n
    → Each Holdable (handed_commands handed i)
unfolding handed_commands
each_holdable handed bytes n all zero h = each_nil Holdable
each_holdable handed bytes n all (suc i) h =
    let last = handed_holdable handed bytes i (all.each i h) in
    each_append Holdable (handed_commands handed i) (handed_command handed i ∷ [])
    (each_holdable handed bytes n all i (omega arith)) (each_cons Holdable (handed_command handed i) [] last (each_nil Holdable))

-- the sheet of the commands that are handed over
pub asked_is_sheet : (policy n : ℕ) (handed : List ℕ) → Bytes handed → first_unholdable policy n handed ≡ none
    → Sheet (asked_sheet policy n handed) (read_policy policy) (handed_commands handed n)
unfolding asked_sheet
asked_is_sheet policy n handed bytes e =
    let (low, all) = all_held policy n handed e in
    record {
      few = omega (arith, all.few, handed_count handed n);
      holdable = each_holdable handed bytes n all n (omega arith);
      bytes = refl;
    }
