-- The lines of the known keys, put on a page entry by entry: with i entries behind, their lines are put. Rests on Placed.
use Prim.Native.Nat.{ℕ, ◌+◌, ◌*◌, ◌≤◌, ◌<◌}
use native.Mathlib.Omega.{arith}
use native.Mathlib.Numerals.{add-one}
use mathlib.Core.Path.{◌≡◌, sym, ap, ◌∙◌}
use mathlib.Core.Bool.{true, false}
use mathlib.Core.List.{List, [], ◌∷◌, ◌++◌, append_assoc, append-nil}
use lib.ListN.{length, get_or, take}
use lib.Seq.{take-suc}
use Rattle.shapes.specs.declared.Entry.{Entry}
use Rattle.shapes.specs.Entries.{key_of, is_own_entry}
use Rattle.token.specs.Shows.{blank_entry}
use Rattle.token.specs.Known.{is_marked}
use Rattle.text.specs.Text.{key_line}
use Rattle.text.specs.Printing.{own_word, marked_line, marked_lines}
use Rattle.text.specs.declared.append.Page.{Page}
use Rattle.text.specs.Writing.{Puts}
use Rattle.text.proofs.Placed.{puts_none, puts_then, puts_few, puts_as}

-- the line of one entry: none, or a known key's
pub puts_unmarked : (e : Entry) (page : Page) → is_marked e ≡ false → page.at ≤ length page.buffer.now
    → Puts 20 (marked_line e) page page
unfolding marked_line
puts_unmarked e page unmarked h = rw unmarked (puts_few 20 (omega arith) (puts_none page h))

pub puts_marked : (e : Entry) (k : ℕ) → is_marked e ≡ true → k ≡ (key_of e.term).0 → {before after : Page}
    → Puts 20 (key_line k (own_word (is_own_entry e))) before after
    → Puts 20 (marked_line e) before after
unfolding marked_line
puts_marked e k marked same p = rw marked (puts_as (ap (λ (n : ℕ). key_line n (own_word (is_own_entry e))) same) p)

-- one entry more at the end
marked_lines_more : (entries : List Entry) (e : Entry) → marked_lines (entries ++ e ∷ []) ≡ marked_lines entries ++ marked_line e
unfolding marked_lines
marked_lines_more [] e = append-nil (marked_line e)
marked_lines_more (x ∷ entries) e =
    ap (λ (l : List ℕ). marked_line x ++ l) (marked_lines_more entries e)
    ∙ sym (append_assoc (marked_line x) (marked_lines entries) (marked_line e))

pub key_lined_none : (entries : List Entry) (page : Page) → page.at ≤ length page.buffer.now
    → Puts (20 * 0) (marked_lines (take 0 entries)) page page
unfolding marked_lines
key_lined_none entries page h = puts_none page h

pub key_lined_next : (entries : List Entry) (i : ℕ) → i < length entries → {before middle after : Page}
    → Puts (20 * i) (marked_lines (take i entries)) before middle
    → Puts 20 (marked_line (get_or entries i blank_entry)) middle after
    → Puts (20 * (i + 1)) (marked_lines (take (i + 1) entries)) before after
key_lined_next entries i more so_far p =
    let next : take (i + 1) entries ≡ take i entries ++ get_or entries i blank_entry ∷ [] =
    ap (λ (k : ℕ). take k entries) (add-one i) ∙ take-suc entries i blank_entry more in
    let both = puts_then so_far p in
    puts_as (sym (ap marked_lines next ∙ marked_lines_more (take i entries) (get_or entries i blank_entry)))
    (puts_few (20 * (i + 1)) (omega (arith, both.wrote.few)) both)
