-- Document 01, "Sheet and report": what the program `rounds` prints. "Fields: position, command, answer, value; the tally counts
-- commands answered 0 and the others; `known` gives m; each key line has its number and `generated` or `own`. Policies print as
-- `plain`, `stp`, `stp+`; command names print without their blank, as `OWNKEY`, `OWNDATA`. A malformed sheet prints one line,
-- `refused 12 place p`." Assumes nothing.
use Rattle.std.specs.Prelude.{ℕ, zero, suc, ◌+◌, ◌/◌, ◌%◌, ◌≡◌, cond, List, [], ◌∷◌, ◌++◌, ltb, length, get_or}
use Prim.Native.Char.{code}
use Prim.Native.String.{String, [] as no_more, ◌∷◌ as ◌before◌}
use Rattle.std.proofs.Math.Option.{Option, none, some}
use Rattle.std.proofs.Math.ListN.{get_elem?}
use Rattle.rules.specs.Templates.{Policy, plain, stp, stp+}
use Rattle.rules.specs.Commands.{Command, number}
use Rattle.rules.specs.State.{State, Origin, generated, own, fresh}
use Rattle.rules.specs.Runs.{Answer, Run}
use Rattle.rules.specs.Known.{KnownList}
use Rattle.sheets.specs.Sheets.{Sheet}
use Rattle.sheets.specs.Faults.{first_fault}
use Rattle.sheets.specs.Reports.{Tally, tally}

-- a word's bytes
unfoldable pub word : String → List ℕ
word no_more = []
word (c before more) = code c ∷ word more

-- a number in decimal: below 10 its one digit, else its last digit behind the decimal of n / 10. A number has no more digits than
-- its size, so as many are enough (proofs/Decimals.antt)
abbrev pub digit : ℕ → ℕ
digit d = 48 + d

unfoldable pub digits : (enough n : ℕ) → List ℕ
digits zero n = digit n ∷ []
digits (suc enough) n = cond (ltb n 10) (digit n ∷ []) (digits enough (n / 10) ++ digit (n % 10) ∷ [])

unfoldable pub decimal : ℕ → List ℕ
decimal n = digits n n

-- a line: its words with a blank between two of them, and a line feed at the end
unfoldable pub line : List (List ℕ) → List ℕ
line [] = 10 ∷ []
line (w ∷ []) = w ++ 10 ∷ []
line (w ∷ v ∷ words) = w ++ 32 ∷ line (v ∷ words)

unfoldable pub policy_name : Policy → List ℕ
policy_name plain = word "plain"
policy_name stp = word "stp"
policy_name stp+ = word "stp+"

-- by command number, from 1
unfoldable pub command_names : List (List ℕ)
command_names =
    word "GENERATE" ∷ word "WRAP" ∷ word "UNWRAP" ∷ word "ENCRYPT" ∷ word "DECRYPT" ∷ word "CORRUPT" ∷ word "DESTROY"
    ∷ word "OWNKEY" ∷ word "OWNDATA" ∷ word "SEAL" ∷ []

unfoldable pub command_name : (number : ℕ) → List ℕ
command_name zero = []
command_name (suc n) = get_or command_names n []

unfoldable pub first_line : Policy → (n : ℕ) → List ℕ
first_line p n = line (word "policy" ∷ policy_name p ∷ word "commands" ∷ decimal n ∷ [])

unfoldable pub command_line : (position : ℕ) (name : List ℕ) (answer value : ℕ) → List ℕ
command_line position name answer value = line (decimal position ∷ name ∷ decimal answer ∷ decimal value ∷ [])

-- the lines of commands and their answers, the first one's position being given
unfoldable pub command_lines : (position : ℕ) → List Command → List Answer → List ℕ
command_lines position [] said = []
command_lines position (c ∷ cs) [] = []
command_lines position (c ∷ cs) (a ∷ said) =
    command_line position (command_name (number c)) a.answer a.value ++ command_lines (suc position) cs said

unfoldable pub tally_line : Tally → List ℕ
tally_line t = line (word "done" ∷ decimal t.done ∷ word "refused" ∷ decimal t.refused ∷ [])

unfoldable pub known_line : (m : ℕ) → List ℕ
known_line m = line (word "known" ∷ decimal m ∷ [])

-- a known key was created, so it has an origin
unfoldable pub origin_word : Option Origin → List ℕ
origin_word none = []
origin_word (some generated) = word "generated"
origin_word (some own) = word "own"

unfoldable pub key_line : (k : ℕ) (origin : List ℕ) → List ℕ
key_line k origin = line (word "key" ∷ decimal k ∷ origin ∷ [])

unfoldable pub key_lines : List Origin → (known : List ℕ) → List ℕ
key_lines origins [] = []
key_lines origins (k ∷ known) = key_line k (origin_word (get_elem? origins k)) ++ key_lines origins known

unfoldable pub report_text : Policy → List Command → List Answer → List Origin → (known : List ℕ) → List ℕ
report_text p cs said origins known =
    first_line p (length cs) ++ command_lines 1 cs said ++ tally_line (tally said) ++ known_line (length known)
    ++ key_lines origins known

unfoldable pub malformed_text : (place : ℕ) → List ℕ
malformed_text place = line (word "refused" ∷ decimal 12 ∷ word "place" ∷ decimal place ∷ [])

-- what is printed for a sheet: a malformed one is named with the place of its first fault; any other is run from a fresh token
-- under its policy
pub data Prints (s : List ℕ) : List ℕ → Type 0 where
  is_malformed : {place : ℕ} → first_fault s ≡ some place → Prints s (malformed_text place)
  has_run : {p : Policy} {cs : List Command} {said : List Answer} {end : State} {known : List ℕ}
      → Sheet s p cs
      → Run p fresh cs said end
      → KnownList end known
      → Prints s (report_text p cs said end.now.origins known)

-- "reads one sheet from standard input, at most its first 32,768 bytes"
abbrev pub most_read : ℕ
most_read = 32768
