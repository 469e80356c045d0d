-- How the text is computed from what a run leaves behind: the sheet's bytes, the records, three bytes for each command, and the
-- entries of the token's table. That this is the text of Text is proved (proofs/Printed.antt); a reader who believes that file need
-- not believe this one. Assumes nothing.
use Rattle.std.specs.Prelude.{ℕ, zero, suc, ◌+◌, ◌*◌, Bool, true, false, cond, List, [], ◌∷◌, ◌++◌, length}
use Rattle.sheets.specs.Bytes.{byte_at, two_at}
use Rattle.sheets.specs.Faults.{entry_number}
use Rattle.sheets.specs.Reports.{Tally, count_one}
use Rattle.sheets.specs.Reading.{read_policy}
use Rattle.shapes.specs.declared.Entry.{Entry}
use Rattle.shapes.specs.Entries.{key_of, is_own_entry}
use Rattle.token.specs.Known.{is_marked, marked_keys}
use Rattle.text.specs.declared.Tally.{Tally as Counts}
use Rattle.text.specs.Text.{word, command_name, first_line, command_line, tally_line, known_line, key_line}

-- the line of the command with i commands before it, and the lines of the first n commands
unfoldable pub entry_line : (s records : List ℕ) (i : ℕ) → List ℕ
entry_line s records i =
    command_line (suc i) (command_name (entry_number s i)) (byte_at records (3 * i)) (two_at records (3 * i + 1))

unfoldable pub entry_lines : (s records : List ℕ) (n : ℕ) → List ℕ
entry_lines s records zero = []
entry_lines s records (suc n) = entry_lines s records n ++ entry_line s records n

-- the tally of the first n records
unfoldable pub tally_of : (records : List ℕ) (n : ℕ) → Tally
tally_of records zero = record { done = 0; refused = 0 }
tally_of records (suc n) = count_one (byte_at records (3 * n)) (tally_of records n)

-- a tally as the code has it, and as the definitions have it
abbrev pub as_counts : Tally → Counts
as_counts t = record { done = t.done; refused = t.refused }

abbrev pub as_tally : Counts → Tally
as_tally t = record { done = t.done; refused = t.refused }

-- the line of an entry that is a known key's; any other entry has none
unfoldable pub own_word : (is_own : Bool) → List ℕ
own_word true = word "own"
own_word false = word "generated"

unfoldable pub marked_line : Entry → List ℕ
marked_line e = cond (is_marked e) (key_line (key_of e.term).0 (own_word (is_own_entry e))) []

unfoldable pub marked_lines : List Entry → List ℕ
marked_lines [] = []
marked_lines (e ∷ entries) = marked_line e ++ marked_lines entries

unfoldable pub run_text : (policy : ℕ) (s : List ℕ) (n : ℕ) (records : List ℕ) (entries : List Entry) → List ℕ
run_text policy s n records entries =
    first_line (read_policy policy) n ++ entry_lines s records n ++ tally_line (tally_of records n)
    ++ known_line (length (marked_keys entries))
    ++ marked_lines entries
