-- What is computed from the sheet's bytes and the records is what the commands and the answers say: the lines, and the tally.
-- Rests on the sheets' laws of bytes.
use Prim.Native.Nat.{ℕ, zero, suc, ◌+◌, ◌*◌}
use native.Mathlib.Omega.{arith}
use mathlib.Core.Path.{◌≡◌, sym, ap, ◌∙◌}
use mathlib.Core.List.{List, [], ◌∷◌, ◌++◌, append_assoc, append-nil}
use lib.ListN.{length, drop}
use Rattle.rules.specs.Commands.{Command, number}
use Rattle.rules.specs.Runs.{Answer}
use Rattle.sheets.specs.Bytes.{two, byte_at, two_at}
use Rattle.sheets.specs.Sheets.{header_length, entry_length, body_bytes, contents}
use Rattle.sheets.specs.Faults.{entry_number}
use Rattle.sheets.specs.Reports.{records_bytes, Tally, count_one, tally}
use Rattle.sheets.proofs.Bytes.{three_read}
use Rattle.text.specs.Text.{command_name, command_line, command_lines}
use Rattle.text.specs.Printing.{entry_line, entry_lines, tally_of}

-- a record's bytes, and those behind them
record_read : (records : List ℕ) (i : ℕ) (a : Answer) (said : List Answer) (more : List ℕ)
    → drop (3 * i) records ≡ records_bytes (a ∷ said) ++ more
    → (byte_at records (3 * i) ≡ a.answer) × (two_at records (3 * i + 1) ≡ a.value)
    × (drop (3 * suc i) records ≡ records_bytes said ++ more)
unfolding records_bytes two
record_read records i a said more e =
    let (answer, value, on) = three_read records (3 * i) a.answer a.value (records_bytes said ++ more) e in
    let next : 3 * suc i ≡ 3 * i + 3 = omega arith in
    (answer, value, ap (λ (k : ℕ). drop k records) next ∙ on)

-- an entry's command number, and the entries behind it
entry_read : (s : List ℕ) (i offset : ℕ) (c : Command) (cs : List Command) (more : List ℕ)
    → drop (header_length + entry_length * i) s ≡ contents offset (c ∷ cs) ++ more
    → (entry_number s i ≡ number c)
    × (drop (header_length + entry_length * suc i) s ≡ contents (offset + length (body_bytes c)) cs ++ more)
unfolding contents two entry_number
entry_read s i offset c cs more e =
    let begin = header_length + entry_length * i in
    let (name, _, on) = three_read s begin (number c) offset (contents (offset + length (body_bytes c)) cs ++ more) e in
    let next : header_length + entry_length * suc i ≡ begin + 3 = omega arith in
    (name, ap (λ (k : ℕ). drop k s) next ∙ on)

same_line : (s records : List ℕ) (i name answer value : ℕ) → entry_number s i ≡ name → byte_at records (3 * i) ≡ answer
    → two_at records (3 * i + 1) ≡ value
    → entry_line s records i ≡ command_line (suc i) (command_name name) answer value
unfolding entry_line
same_line s records i name answer value e f g = rw (e, f, g)

one_more : (s records : List ℕ) (i : ℕ) (line rest : List ℕ) → entry_line s records i ≡ line
    → entry_lines s records (suc i) ++ rest ≡ entry_lines s records i ++ (line ++ rest)
unfolding entry_lines
one_more s records i line rest e =
    append_assoc (entry_lines s records i) (entry_line s records i) rest
    ∙ ap (λ (l : List ℕ). entry_lines s records i ++ (l ++ rest)) e

-- the lines of the entries from i on are those of the commands that are left
pub lines_printed : (s records : List ℕ) (n i offset : ℕ) (cs : List Command) (said : List Answer) (bodies more : List ℕ)
    → i + length cs ≡ n
    → length said ≡ length cs
    → drop (header_length + entry_length * i) s ≡ contents offset cs ++ bodies
    → drop (3 * i) records ≡ records_bytes said ++ more
    → entry_lines s records n ≡ entry_lines s records i ++ command_lines (suc i) cs said
unfolding command_lines
lines_printed s records n i offset [] said bodies more e l t r =
    let last : n ≡ i = omega arith in
    ap (entry_lines s records) last ∙ sym (append-nil (entry_lines s records i))
lines_printed s records n i offset (c ∷ cs) [] bodies more e l t r = absurd (omega arith)
lines_printed s records n i offset (c ∷ cs) (a ∷ said) bodies more e l t r =
    let (name, entries) = entry_read s i offset c cs bodies t in
    let (answer, value, others) = record_read records i a said more r in
    lines_printed s records n (suc i) (offset + length (body_bytes c)) cs said bodies more (omega arith) (omega arith) entries
    others
    ∙ one_more s records i _ (command_lines (suc (suc i)) cs said)
    (same_line s records i (number c) a.answer a.value name answer value)

-- the tallies of two strings of answers, counted together
together : Tally → Tally → Tally
together t u = record { done = t.done + u.done; refused = t.refused + u.refused }

same_tally : (t u : Tally) → t.done ≡ u.done → t.refused ≡ u.refused → t ≡ u
same_tally t u e f = λ i. record { done = e i; refused = f i }

-- an answer between the two may be counted with either
counted_either : (answer : ℕ) (t u : Tally) → together (count_one answer t) u ≡ together t (count_one answer u)
unfolding together count_one
counted_either zero t u = same_tally _ _ (omega arith) (omega arith)
counted_either (suc n) t u = same_tally _ _ (omega arith) (omega arith)

one_counted : (records : List ℕ) (i : ℕ) {answer : ℕ} (u : Tally) → byte_at records (3 * i) ≡ answer
    → together (tally_of records (suc i)) u ≡ together (tally_of records i) (count_one answer u)
unfolding tally_of
one_counted records i {answer} u e =
    ap (λ (x : ℕ). together (count_one x (tally_of records i)) u) e ∙ counted_either answer (tally_of records i) u

tally_goes_on : (records : List ℕ) (n i : ℕ) (said : List Answer) (more : List ℕ)
    → i + length said ≡ n
    → drop (3 * i) records ≡ records_bytes said ++ more
    → tally_of records n ≡ together (tally_of records i) (tally said)
unfolding together tally
tally_goes_on records n i [] more e r =
    let last : n ≡ i = omega arith in
    ap (tally_of records) last ∙ same_tally _ _ (omega arith) (omega arith)
tally_goes_on records n i (a ∷ said) more e r =
    let (answer, value, others) = record_read records i a said more r in
    tally_goes_on records n (suc i) said more (omega arith) others ∙ one_counted records i (tally said) answer

-- the tally of the records is that of the answers
pub tally_printed : (records : List ℕ) (n : ℕ) (said : List Answer) (more : List ℕ) → length said ≡ n
    → records ≡ records_bytes said ++ more → tally_of records n ≡ tally said
unfolding together tally_of
tally_printed records n said more e r =
    tally_goes_on records n 0 said more (omega arith) r ∙ same_tally _ _ (omega arith) (omega arith)
