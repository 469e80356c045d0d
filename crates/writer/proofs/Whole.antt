-- Writing a whole sheet: the header, the table behind it, the bodies behind both. Rests on Over and Handed.
use Prim.Native.Nat.{ℕ, ◌+◌, ◌-◌, ◌*◌, ◌≤◌}
use native.Mathlib.Omega.{arith}
use mathlib.Core.Path.{◌≡◌, refl, sym, ap, ◌∙◌}
use mathlib.Core.List.{List, ◌∷◌, ◌++◌}
use lib.ListN.{length, take, drop}
use Rattle.sheets.specs.Bytes.{two}
use Rattle.sheets.specs.Sheets.{contents, bodies, bodies_begin, sheet_bytes}
use Rattle.sheets.specs.Calls.{over}
use Rattle.sheets.proofs.Calls.{over_length}
use Rattle.sheets.proofs.Good.{policy_written, contents_length}
use Rattle.writer.specs.Writer.{handed_commands, asked_sheet}
use Rattle.writer.proofs.Over.{over_lent}
use Rattle.writer.proofs.Handed.{handed_count, asked_length}

-- the three parts
abbrev header : (policy n : ℕ) → List ℕ
header policy n = policy ∷ two n

abbrev table : (n : ℕ) (handed : List ℕ) → List ℕ
table n handed = contents (bodies_begin n) (handed_commands handed n)

pub three_parts : (policy n : ℕ) (handed : List ℕ) → policy ≤ 2
    → asked_sheet policy n handed ≡ header policy n ++ table n handed ++ bodies (handed_commands handed n)
unfolding asked_sheet sheet_bytes
three_parts policy n handed low = rw (policy_written policy low, handed_count handed n)

front_long : (policy n : ℕ) (handed : List ℕ) → length (header policy n ++ table n handed) ≡ 3 + 3 * n
unfolding two
front_long policy n handed =
    omega (arith, contents_length (bodies_begin n) (handed_commands handed n), handed_count handed n)

module _ (policy n : ℕ) (handed before : List ℕ) (room : length (asked_sheet policy n handed) ≤ length before) where
  -- there is room for all of it
  pub all_room : 3 + 3 * n + length (bodies (handed_commands handed n)) ≤ length before
  unfolding bodies_begin
  all_room = omega (arith, room, asked_length policy n handed)

  module _ {out : List ℕ} (written : out ≡ over (header policy n) before) where
    -- once the header is written
    pub header_room : 3 + 3 * n + length (bodies (handed_commands handed n)) ≤ length out
    unfolding two
    header_room =
        omega (arith, all_room, ap length written ∙ over_length (header policy n) before (omega (arith, all_room)))

    module _ {back : List ℕ} (more : back ≡ over (table n handed) (take (length out - 3) (drop 3 out))) where
      -- .. and the table
      abbrev pub with_table : List ℕ
      with_table = take 3 out ++ (back ++ drop (length out - 3) (drop 3 out))

      table_written : with_table ≡ over (header policy n ++ table n handed) before
      unfolding two
      table_written = over_lent (header policy n) (table n handed) before 3 out back refl written more

      pub table_room : 3 + 3 * n + length (bodies (handed_commands handed n)) ≤ length with_table
      table_room =
          omega (
            arith,
            all_room,
            ap length table_written
                ∙ over_length (header policy n ++ table n handed) before (omega (arith, all_room, front_long policy n handed)),
          )

      -- .. and the bodies
      pub all_written : policy ≤ 2 → {back' : List ℕ}
          → back'
          ≡ over (bodies (handed_commands handed n)) (take (length with_table - (3 + 3 * n)) (drop (3 + 3 * n) with_table))
          → take (3 + 3 * n) with_table
          ++ (back' ++ drop (length with_table - (3 + 3 * n)) (drop (3 + 3 * n) with_table))
          ≡ over (asked_sheet policy n handed) before
      all_written low {back'} e =
          over_lent (header policy n ++ table n handed) (bodies (handed_commands handed n)) before (3 + 3 * n) with_table back'
          (front_long policy n handed) table_written e
          ∙ ap (λ (l : List ℕ). over l before) (sym (three_parts policy n handed low))
