-- Document 01's sheet A, written from its four commands: into a buffer of one byte more than it needs, into one of one byte less,
-- and with a command that no sheet can hold. Rests on the definitions alone.
use Prim.Native.Nat.{ℕ}
use mathlib.Core.Path.{refl}
use mathlib.Core.List.{List, [], ◌∷◌, ◌++◌}
use lib.ListN.{replicate}
use Rattle.rules.specs.Commands.{number, body}
use Rattle.sheets.specs.Bytes.{two}
use Rattle.sheets.specs.Sheets.{policy_number, part_bytes, parts_bytes, body_bytes, contents, bodies, sheet_bytes}
use Rattle.sheets.specs.Calls.{over}
use Rattle.sheets.proofs.Opened.{sheets_opened}
use Rattle.std.specs.Prelude.{Ok, Err}
use Rattle.shapes.specs.declared.CallError.TheVariants.{Malformed, Short}
use Rattle.writer.specs.Writer.{handed_number, handed_length, handed_body, handed_commands, unholdable, first_unholdable}
use Rattle.writer.specs.Writer.{asked_sheet, sheet_into, wrote_as, wrote}
use Rattle.writer.proofs.Unique.{Result}

-- GENERATE 25, GENERATE 16, WRAP 0 1, DECRYPT 0 2: a record each
abbrev record_of : (number long a b c d : ℕ) → List ℕ
record_of number long a b c d = number ∷ long ∷ a ∷ b ∷ c ∷ d ∷ []

abbrev commands : List ℕ
commands =
    record_of 1 1 25 0 0 0 ++ record_of 1 1 16 0 0 0 ++ record_of 2 2 0 1 0 0 ++ record_of 5 3 0 0 2 0

-- `00 0004 01000F 010010 020011 050013 19 10 0001 000002`
abbrev sheet_A : List ℕ
sheet_A =
    0 ∷ 0 ∷ 4 ∷ 1 ∷ 0 ∷ 15 ∷ 1 ∷ 0 ∷ 16 ∷ 2 ∷ 0 ∷ 17 ∷ 5 ∷ 0 ∷ 19 ∷ 25 ∷ 16 ∷ 0 ∷ 1 ∷ 0 ∷ 0 ∷ 2 ∷ []

pub written_A : Result 0 4 commands (replicate 23 255) (Ok 22) (sheet_A ++ 255 ∷ [])
unfolding sheets_opened number body two policy_number part_bytes parts_bytes body_bytes contents bodies sheet_bytes over
    handed_number handed_length handed_body handed_commands unholdable first_unholdable asked_sheet sheet_into wrote_as wrote
written_A = refl

pub too_short_for_A : Result 0 4 commands (replicate 21 255) (Err Short) (replicate 21 255)
unfolding sheets_opened number body two policy_number part_bytes parts_bytes body_bytes contents bodies sheet_bytes over
    handed_number handed_length handed_body handed_commands unholdable first_unholdable asked_sheet sheet_into wrote_as wrote
too_short_for_A = refl

-- a fifth command that is not there, and a second with a body of two bytes
pub fifth_missing : Result 0 5 commands [] (Err (Malformed 5)) []
unfolding sheets_opened handed_number handed_length unholdable first_unholdable wrote_as wrote
fifth_missing = refl

pub second_too_long : Result 0 2 (record_of 1 1 25 0 0 0 ++ record_of 1 2 16 0 0 0) [] (Err (Malformed 2)) []
unfolding sheets_opened handed_number handed_length unholdable first_unholdable wrote_as wrote
second_too_long = refl
