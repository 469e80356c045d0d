-- Every byte string has a text, which can be computed; and document 01's own example has the text that stands there. Rests on the
-- sheets' Good and the rules' Computed.
use Prim.Native.Nat.{ℕ}
use mathlib.Core.Path.{◌≡◌, refl, subst}
use mathlib.Core.List.{List, [], ◌∷◌, ◌++◌}
use mathlib.Core.Option.{Option, none, some}
use Rattle.rules.specs.Templates.{Policy}
use Rattle.rules.specs.Commands.{Command}
use Rattle.rules.specs.State.{fresh}
use Rattle.rules.specs.Computing.{said_by, end_of, known_of}
use Rattle.rules.proofs.SoundKept.{sound}
use Rattle.rules.proofs.Computed.{has_run as run_made}
use Rattle.rules.proofs.KnownLists.{known_of_is}
use Rattle.sheets.specs.Bytes.{Bytes, byte_at}
use Rattle.sheets.specs.Faults.{count, first_fault}
use Rattle.sheets.specs.Reports.{count_one, tally}
use Rattle.sheets.specs.Reading.{read_commands, read_policy}
use Rattle.sheets.proofs.Good.{good_sheet}
use Rattle.sheets.proofs.Opened.{sheets_opened}
use Rattle.sheets.proofs.AreBytes.{below_256, are_bytes}
use Rattle.text.specs.Text.{word, digits, decimal, line, policy_name, command_names, command_name, first_line, command_line}
use Rattle.text.specs.Text.{command_lines, tally_line, known_line, origin_word, key_line, key_lines}
use Rattle.text.specs.Text.{report_text, malformed_text, Prints, is_malformed, has_run}

unfoldable pub run_text_of : Policy → List Command → List ℕ
run_text_of p cs =
    report_text p cs (said_by p fresh cs) (end_of p fresh cs).now.origins (known_of (end_of p fresh cs))

unfoldable pub text_or : Option ℕ → List ℕ → List ℕ
text_or none s = run_text_of (read_policy (byte_at s 0)) (read_commands s (count s))
text_or (some place) s = malformed_text place

prints_or : (s : List ℕ) → Bytes s → (o : Option ℕ) → first_fault s ≡ o → Prints s (text_or o s)
unfolding text_or run_text_of
prints_or s bytes none e =
    let run = run_made (read_policy (byte_at s 0)) (read_commands s (count s)) in
    has_run (good_sheet s bytes e) run (known_of_is (sound (record { commands = read_commands s (count s); said = _; run = run })))
prints_or s bytes (some place) e = is_malformed e

-- the text of a byte string
unfoldable pub text_of : List ℕ → List ℕ
text_of s = text_or (first_fault s) s

pub prints : (s : List ℕ) → Bytes s → Prints s (text_of s)
unfolding text_of
prints s bytes = prints_or s bytes (first_fault s) refl

-- "Sheet, in hex: 00 0004 01000F 010010 020011 050013 19 10 0001 000002"
unfoldable pub example : List ℕ
example = 0x00 ∷ 0x00 ∷ 0x04 ∷ 0x01 ∷ 0x00 ∷ 0x0F ∷ 0x01 ∷ 0x00 ∷ 0x10 ∷ 0x02 ∷ 0x00 ∷ 0x11 ∷ 0x05 ∷ 0x00 ∷ 0x13
    ∷ 0x19 ∷ 0x10 ∷ 0x00 ∷ 0x01 ∷ 0x00 ∷ 0x00 ∷ 0x02 ∷ []

unfoldable pub example_text : List ℕ
example_text =
    word "policy plain commands 4\n"
    ++ word "1 GENERATE 0 0\n"
    ++ word "2 GENERATE 0 1\n"
    ++ word "3 WRAP 0 2\n"
    ++ word "4 DECRYPT 0 1\n"
    ++ word "done 4 refused 0\n"
    ++ word "known 1\n"
    ++ word "key 1 generated\n"

-- its numbers are bytes
example_bytes : Bytes example
unfolding example below_256
example_bytes = are_bytes example refl

-- "Output, whole"
example_computed : text_of example ≡ example_text
unfolding sheets_opened example example_text text_of text_or run_text_of report_text first_line line word policy_name decimal digits
    command_lines command_line command_name command_names tally_line known_line key_lines key_line origin_word count_one tally
example_computed = refl

-- so the text of document 01 is what the definitions print for its sheet
pub example_prints : Prints example example_text
example_prints = subst (Prints example) example_computed (prints example example_bytes)
