-- The text that is computed from what a run leaves behind is the text of that run, and every sheet has one text. Rests on
-- PrintedLines and PrintedKeys, and on the sheets' and the rules' uniqueness.
use Prim.Native.Nat.{ℕ}
use native.Mathlib.Omega.{arith}
use mathlib.Core.Path.{◌≡◌, sym, ap, ◌∙◌, subst, subst₂}
use mathlib.Core.List.{List, ◌++◌}
use lib.ListN.{length, drop}
use Rattle.rules.specs.Templates.{Policy}
use Rattle.rules.specs.Commands.{Command}
use Rattle.rules.specs.State.{State, fresh}
use Rattle.rules.specs.Runs.{Answer, Run, Reachable}
use Rattle.rules.specs.Known.{KnownList}
use Rattle.rules.proofs.Prefixes.{one_answer_each}
use Rattle.rules.proofs.SoundKept.{sound}
use Rattle.rules.proofs.KeyOrder.{keys_in_order}
use Rattle.rules.proofs.KnownLists.{known_list_unique}
use Rattle.rules.proofs.Steps.{run_unique}
use Rattle.sheets.specs.Bytes.{two}
use Rattle.sheets.specs.Sheets.{header_length, contents, bodies, bodies_begin, sheet_bytes, Sheet}
use Rattle.sheets.specs.Reports.{records_bytes, tally}
use Rattle.sheets.specs.Reading.{read_policy}
use Rattle.sheets.specs.Calls.{over}
use Rattle.sheets.proofs.Good.{one_reading}
use Rattle.sheets.proofs.Replied.{malformed_not_run}
use Rattle.token.specs.declared.Token.{Token}
use Rattle.token.specs.Shows.{Shows}
use Rattle.token.specs.Known.{marked_keys}
use Rattle.token.proofs.KnownShown.{known_shown}
use Rattle.text.specs.Text.{command_lines, key_lines, report_text}
use Rattle.text.specs.Text.{Prints, is_malformed, has_run}
use Rattle.text.specs.Printing.{entry_lines, tally_of, marked_lines, run_text}
use Rattle.text.proofs.PrintedLines.{lines_printed, tally_printed}
use Rattle.text.proofs.PrintedKeys.{keys_printed}

-- behind the header stand the entries, and behind those the bodies
entries_behind : {s : List ℕ} {p : Policy} {cs : List Command} → Sheet s p cs
    → drop header_length s ≡ contents (bodies_begin (length cs)) cs ++ bodies cs
unfolding sheet_bytes two
entries_behind {p} {cs} sheet = ap (drop header_length) sheet.bytes

module _ {s : List ℕ} {p : Policy} {cs : List Command} {said : List Answer} {end : State} {known : List ℕ}
    (sheet : Sheet s p cs) (run : Run p fresh cs said end) (list : KnownList end known) where
  reached : Reachable p end
  reached = record { commands = cs; said = said; run = run }

  -- what the code has in hand: the policy's number, the count, the records over the front of a buffer, a token that shows the end
  module _ (policy n : ℕ) (named : read_policy policy ≡ p) (counted : n ≡ length cs) (records before : List ℕ)
      (recorded : records ≡ over (records_bytes said) before) (token : Token) (shown : Shows token end) where
    lines : entry_lines s records n ≡ command_lines 1 cs said
    unfolding entry_lines over
    lines =
        lines_printed s records n 0 (bodies_begin (length cs)) cs said (bodies cs) _ (omega (arith, counted)) (one_answer_each run)
        (entries_behind sheet) recorded

    answered : tally_of records n ≡ tally said
    unfolding over
    answered = tally_printed records n said _ (one_answer_each run ∙ sym counted) recorded

    keys : marked_keys token.table.entries ≡ known
    keys = known_list_unique (known_shown shown (sound reached) (keys_in_order reached)) list

    key_part : marked_lines token.table.entries ≡ key_lines end.now.origins known
    key_part = keys_printed (sound reached) shown ∙ ap (key_lines end.now.origins) keys

    -- the text computed is the text of the run
    pub text_printed : run_text policy s n records token.table.entries ≡ report_text p cs said end.now.origins known
    unfolding run_text report_text
    text_printed = rw (named, lines, answered, keys, key_part, counted)

    -- .. so it is what is printed for the sheet
    pub run_prints : Prints s (run_text policy s n records token.table.entries)
    run_prints = subst (Prints s) (sym text_printed) (has_run sheet run list)

-- two runs of one sheet have the same text
same_text : {s : List ℕ} {p p' : Policy} {cs cs' : List Command} {said said' : List Answer} {end end' : State}
    {known known' : List ℕ}
    → Sheet s p cs → Run p fresh cs said end → KnownList end known
    → Sheet s p' cs' → Run p' fresh cs' said' end' → KnownList end' known'
    → report_text p cs said end.now.origins known ≡ report_text p' cs' said' end'.now.origins known'
same_text {said} {end} {known} sheet run list sheet' run' list' =
    let (e, f) = one_reading sheet sheet' in
    let (a, b) = run_unique (subst₂ (λ (p : Policy) (cs : List Command). Run p fresh cs said end) e f run) run' in
    let k = known_list_unique (subst (λ (s : State). KnownList s known) b list) list' in
    cc

-- every sheet has one text
pub prints_unique : {s a b : List ℕ} → Prints s a → Prints s b → a ≡ b
prints_unique (is_malformed e) (is_malformed e') = cc
prints_unique (is_malformed e) (has_run sheet run list) = absurd (malformed_not_run e sheet)
prints_unique (has_run sheet run list) (is_malformed e) = absurd (malformed_not_run e sheet)
prints_unique (has_run sheet run list) (has_run sheet' run' list') = same_text sheet run list sheet' run' list'
