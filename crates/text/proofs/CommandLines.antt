-- The lines of a sheet's commands, put on a page one after another: with i lines behind, those are put. Rests on Placed.
use Prim.Native.Nat.{ℕ, suc, ◌+◌, ◌*◌, ◌≤◌}
use native.Mathlib.Omega.{arith}
use native.Mathlib.Numerals.{add-one}
use mathlib.Core.Path.{◌≡◌}
use mathlib.Core.List.{List}
use lib.ListN.{length, get_or}
use Rattle.sheets.specs.Bytes.{byte_at, two_at}
use Rattle.sheets.specs.Faults.{entry_number}
use Rattle.text.specs.declared.append.Page.{Page}
use Rattle.text.specs.Text.{command_name, command_line}
use Rattle.text.specs.Printing.{entry_line, entry_lines}
use Rattle.text.specs.Writing.{Puts}
use Rattle.text.proofs.Placed.{puts_none, puts_then, puts_few, puts_as}

pub lined_none : (s records : List ℕ) (page : Page) → page.at ≤ length page.buffer.now
    → Puts (25 * 0) (entry_lines s records 0) page page
unfolding entry_lines
lined_none s records page h = puts_none page h

module _ (s records : List ℕ) (i : ℕ) where
  -- the line as the code has its numbers
  same_line : (value : ℕ) → value ≡ get_or records (3 * i + 1) 0 * 256 + get_or records (3 * i + 2) 0
      → command_line (i + 1) (command_name (get_or s (3 + 3 * i) 0)) (get_or records (3 * i) 0) value ≡ entry_line s records i
  unfolding entry_line entry_number byte_at two_at
  same_line value e =
      let next : 3 * i + 1 + 1 ≡ 3 * i + 2 = omega arith in
      rw (add-one i, next, e)

  pub lined_next : {before middle after : Page} → Puts (25 * i) (entry_lines s records i) before middle
      → (value : ℕ) → value ≡ get_or records (3 * i + 1) 0 * 256 + get_or records (3 * i + 2) 0
      → Puts 25 (command_line (i + 1) (command_name (get_or s (3 + 3 * i) 0)) (get_or records (3 * i) 0) value) middle after
      → Puts (25 * (i + 1)) (entry_lines s records (i + 1)) before after
  unfolding entry_lines
  lined_next so_far value e p =
      let both = puts_then so_far (puts_as (same_line value e) p) in
      rw add-one (puts_few (25 * suc i) (omega (arith, both.wrote.few)) both)
