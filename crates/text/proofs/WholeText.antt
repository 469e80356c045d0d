-- The whole text written: the lines of a run one after another, and the one line of a malformed sheet. Rests on Placed.
use Prim.Native.Nat.{ℕ, ◌*◌, ◌≤◌}
use native.Mathlib.Omega.{arith}
use mathlib.Core.Path.{◌≡◌, sym, ap}
use mathlib.Core.List.{List, [], ◌∷◌, ◌++◌, append_assoc}
use lib.ListN.{length}
use Rattle.sheets.specs.Reading.{read_policy}
use Rattle.shapes.specs.declared.Entry.{Entry}
use Rattle.token.specs.Known.{marked_keys}
use Rattle.text.specs.declared.Tally.{Tally as Counts}
use Rattle.text.specs.Text.{word, digits, decimal, line, first_line, tally_line, known_line, malformed_text}
use Rattle.text.specs.Printing.{entry_lines, tally_of, as_counts, as_tally, marked_lines, run_text}
use Rattle.text.specs.declared.append.Page.{Page}
use Rattle.text.specs.Writing.{Puts, Printed}
use Rattle.text.proofs.Placed.{puts_then, puts_as, puts_all}

-- how many keys are known, and their lines
abbrev known_keys_text : List Entry → List ℕ
known_keys_text entries = known_line (length (marked_keys entries)) ++ marked_lines entries

pub puts_known_keys : (entries : List Entry) {m : ℕ} {before known after : Page} → m ≡ length (marked_keys entries)
    → Puts 12 (word "known" ++ 32 ∷ [] ++ (decimal m ++ 10 ∷ [])) before known
    → Puts 20480 (marked_lines entries) known after
    → Puts 20492 (known_keys_text entries) before after
unfolding known_line line word
puts_known_keys entries {m} count one two = puts_then (puts_as (ap known_line count) one) two

-- the first line, the commands' lines and the tally; and the whole text of a run
pub puts_run : (policy : ℕ) (s : List ℕ) (n : ℕ) (records : List ℕ) (entries : List Entry) {t : Counts}
    {before first lines tallied after : Page}
    → n ≤ 4096
    → before.at ≡ 0
    → Puts 28 (first_line (read_policy policy) n) before first
    → Puts (25 * n) (entry_lines s records n) first lines
    → t ≡ as_counts (tally_of records n)
    → Puts 25 (tally_line (as_tally t)) lines tallied
    → Puts 20492 (known_keys_text entries) tallied after
    → Printed (run_text policy s n records entries) before.buffer.now after.buffer.now after.at
unfolding run_text
puts_run policy s n records entries low front one two counts three four =
    let commands = puts_then (puts_then one two) (puts_as (ap (λ (x : Counts). tally_line (as_tally x)) counts) three) in
    let joined = sym (append_assoc _ (known_line (length (marked_keys entries))) (marked_lines entries)) in
    puts_all (omega arith) front (puts_as joined (puts_then commands four))

-- the words `refused 12 place`, and the place, at the buffer's front
pub puts_refused : (place : ℕ) {before after : Page} → before.at ≡ 0
    → Puts 23 (word "refused 12 place" ++ 32 ∷ [] ++ (decimal place ++ 10 ∷ [])) before after
    → Printed (malformed_text place) before.buffer.now after.buffer.now after.at
unfolding malformed_text line word decimal digits
puts_refused place front p = puts_all (omega arith) front p
