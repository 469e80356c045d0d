-- Texts worked out by hand from document 01, besides its own example (EveryText): together they have every word that is printed, and
-- numbers of one digit and of more. Each is what the definitions print for its sheet, by computing. Rests on EveryText.
use Prim.Native.Nat.{ℕ}
use mathlib.Core.Path.{◌≡◌, refl, subst}
use mathlib.Core.Bool.{true}
use mathlib.Core.List.{List, [], ◌∷◌, ◌++◌, map}
use lib.ListN.{replicate}
use Rattle.rules.specs.Templates.{plain, stp, stp+}
use Rattle.rules.specs.Commands.{GENERATE, WRAP, UNWRAP, ENCRYPT, DECRYPT, CORRUPT, DESTROY, OWN_KEY, OWN_DATA, SEAL}
use Rattle.rules.specs.Commands.{number, body}
use Rattle.sheets.specs.Sheets.{policy_number, part_bytes, parts_bytes, body_bytes, contents, bodies, sheet_bytes}
use Rattle.sheets.specs.Reports.{count_one, tally}
use Rattle.sheets.proofs.Each.{Each, each_nil, each_cons}
use Rattle.sheets.proofs.AreBytes.{below_256, are_bytes}
use Rattle.sheets.proofs.Opened.{sheets_opened}
use Rattle.text.specs.Text.{word, digits, decimal, line, policy_name, command_names, command_name, first_line, command_line}
use Rattle.text.specs.Text.{command_lines, tally_line, known_line, origin_word, key_line, key_lines}
use Rattle.text.specs.Text.{report_text, malformed_text, Prints}
use Rattle.text.proofs.EveryText.{run_text_of, text_or, text_of, prints}

-- a sheet's bytes, and the whole text that is printed for them
pub record Example : Type 0 where
  pub sheet : List ℕ
  pub text : List ℕ

-- every command; key 0 wraps key 1, which is corrupted, and key 2 is the caller's own
abbrev pub every_command : Example
every_command =
    record {
      sheet =
          sheet_bytes stp
          (GENERATE 3
          ∷ GENERATE 28
          ∷ WRAP 0 1
          ∷ UNWRAP 0 2 22
          ∷ OWN_DATA
          ∷ ENCRYPT 1 3
          ∷ DECRYPT 1 4
          ∷ OWN_KEY
          ∷ SEAL 5 3
          ∷ DESTROY 2
          ∷ CORRUPT 2
          ∷ CORRUPT 1
          ∷ []);
      text =
          word "policy stp commands 12\n"
          ++ word "1 GENERATE 0 0\n"
          ++ word "2 GENERATE 0 1\n"
          ++ word "3 WRAP 0 2\n"
          ++ word "4 UNWRAP 0 2\n"
          ++ word "5 OWNDATA 0 3\n"
          ++ word "6 ENCRYPT 0 4\n"
          ++ word "7 DECRYPT 0 3\n"
          ++ word "8 OWNKEY 0 5\n"
          ++ word "9 SEAL 0 6\n"
          ++ word "10 DESTROY 0 2\n"
          ++ word "11 CORRUPT 3 0\n"
          ++ word "12 CORRUPT 0 1\n"
          ++ word "done 11 refused 1\n"
          ++ word "known 2\n"
          ++ word "key 1 generated\n"
          ++ word "key 2 own\n";
    }

-- refusals alone, under the third policy
abbrev pub all_refused : Example
all_refused =
    record {
      sheet = sheet_bytes stp+ (GENERATE 3 ∷ DESTROY 0 ∷ []);
      text =
          word "policy stp+ commands 2\n"
          ++ word "1 GENERATE 5 0\n"
          ++ word "2 DESTROY 3 0\n"
          ++ word "done 0 refused 2\n"
          ++ word "known 0\n";
    }

-- a count of 3, and the third entry's number is 11
abbrev pub unknown_number : Example
unknown_number =
    record {
      sheet = 0x00 ∷ 0x00 ∷ 0x03 ∷ 0x09 ∷ 0x00 ∷ 0x0C ∷ 0x09 ∷ 0x00 ∷ 0x0C ∷ 0x0B ∷ 0x00 ∷ 0x0C ∷ [];
      text = word "refused 12 place 3\n";
    }

-- eleven commands, and a byte behind them
abbrev pub a_byte_follows : Example
a_byte_follows = record { sheet = sheet_bytes plain (replicate 11 OWN_DATA) ++ 0 ∷ []; text = word "refused 12 place 12\n" }

unfoldable pub examples : List Example
examples = every_command ∷ all_refused ∷ unknown_number ∷ a_byte_follows ∷ []

-- the text of each is the text that is computed
abbrev Computed : List Example → Type 0
Computed [] = Unit {0}
Computed (x ∷ list) = (below_256 x.sheet ≡ true) × (text_of x.sheet ≡ x.text) × Computed list

computed : Computed examples
unfolding sheets_opened policy_number part_bytes parts_bytes body_bytes contents bodies sheet_bytes number body examples below_256
    text_of text_or run_text_of report_text malformed_text first_line line word policy_name decimal digits command_lines command_line
    command_name command_names tally_line known_line key_lines key_line origin_word count_one tally
computed = (refl, refl, (refl, refl, (refl, refl, (refl, refl, tt))))

-- .. so it is what the definitions print
abbrev pub IsPrinted : Example → Type 0
IsPrinted x = Prints x.sheet x.text

all_printed : (list : List Example) → Computed list → Each IsPrinted list
all_printed [] all = each_nil IsPrinted
all_printed (x ∷ list) (bytes, text, others) =
    each_cons IsPrinted x list (subst (Prints x.sheet) text (prints x.sheet (are_bytes x.sheet bytes)))
    (all_printed list others)

pub examples_print : Each IsPrinted examples
examples_print = all_printed examples computed

-- numbers in decimal
pub decimals : map decimal (0 ∷ 7 ∷ 10 ∷ 105 ∷ 1234 ∷ 65535 ∷ [])
    ≡ word "0" ∷ word "7" ∷ word "10" ∷ word "105" ∷ word "1234" ∷ word "65535" ∷ []
unfolding decimal digits word
decimals = refl
