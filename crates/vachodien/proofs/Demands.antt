-- The three demands, of the C call: `CalledOn` is what the contract of `vachodien_report` says of one call, of the sheet, of the buffer
-- before and after it, and of the number given. This file can be read alone, beside specs/. Every proof is a citation.
use Prim.Native.Nat.{ℕ, ◌+◌, ◌*◌, ◌≤◌, ◌<◌}
use native.Mathlib.Omega.{arith}
use mathlib.Core.Path.{◌≡◌, refl, sym, ap, ◌∙◌}
use mathlib.Core.Logic.Iff
use mathlib.Core.Logic.{◌↔◌, ◌⊎◌}
use mathlib.Core.List.{List, []}
use mathlib.Core.Option.{none, some}
use lib.Dec.{leb}
use lib.ListN.{length, drop, get_elem?}
use borrow.Author.Tests.{leb-true, leb-false}
use Rattle.terms.specs.Lists.{◌∈◌}
use Rattle.terms.specs.Terms.{key}
use Rattle.terms.proofs.Lists.{bool_cases}
use Rattle.rules.specs.Templates.{Policy, stp, stp+}
use Rattle.rules.specs.Commands.{Command}
use Rattle.rules.specs.State.{State, live, fresh}
use Rattle.rules.specs.Changes.{answers, after}
use Rattle.rules.specs.Refusals.{refusals}
use Rattle.rules.specs.Runs.{Answer, number_in, Run, ends, Reachable}
use Rattle.rules.specs.Known.{Known, IsCompromised, KnownList}
use Rattle.rules.proofs.FirstRefusal.{NoneApplies, FirstRefusal}
use Rattle.rules.proofs.Steps.{answer_in_table, refused_leaves, done_steps}
use Rattle.rules.proofs.Steps.{refused_exactly as by_first_refusal, done_exactly as by_no_refusal}
use Rattle.rules.proofs.Prefixes.{one_answer_each}
use Rattle.rules.proofs.SoundKept.{sound}
use Rattle.rules.proofs.Computed.{has_run as run_made}
use Rattle.rules.proofs.KnownLists.{known_of_is}
use Rattle.rules.proofs.KnownCompromised.{stp_known, stp+_known}
use Rattle.rules.proofs.NoOwnHandle.{no_own_handle}
use Rattle.sheets.specs.Bytes.{Bytes, byte_at}
use Rattle.sheets.specs.Sheets.{Sheet}
use Rattle.sheets.specs.Faults.{count, first_fault}
use Rattle.sheets.specs.Reports.{Reply, reported, Replies, is_malformed, has_run, report_bytes}
use Rattle.sheets.specs.Calls.{Called, answer_number, over, call}
use Rattle.sheets.specs.Reading.{reply, read_policy, read_commands}
use Rattle.sheets.proofs.Places.{FirstFault, first_fault_some}
use Rattle.sheets.proofs.Good.{good_sheet}
use Rattle.sheets.proofs.Reports.{report_length, report_unique as report_tells}
use Rattle.sheets.proofs.Calls.{call_fits, call_short, call_malformed, call_length, call_behind, number_tells}
use Rattle.sheets.proofs.Replied.{replies, called_unique, malformed_not_run as no_sheet_of_commands}
use Rattle.vachodien.specs.Replied.{CalledOn}
use Rattle.vachodien.proofs.EachCommand.{Stepped, each_command}
use Rattle.vachodien.proofs.Rests.{report_below, place_below}

-- a sheet's run, from a fresh token under its policy to its end, and the list of the keys that are known there
pub record RunOf (s : List ℕ) (p : Policy) : Type 0 where
  pub commands : List Command
  pub said : List Answer
  pub end : State
  pub known : List ℕ
  pub sheet : Sheet s p commands
  pub run : Run p fresh commands said end
  pub list : KnownList end known

-- its report
abbrev pub report : {s : List ℕ} {p : Policy} → RunOf s p → List ℕ
report of = report_bytes of.said of.known

-- a sheet without a fault has a run
pub good_runs : (s : List ℕ) → Bytes s → first_fault s ≡ none → (p : Policy) × RunOf s p
good_runs s bytes good =
    let run = run_made (read_policy (byte_at s 0)) (read_commands s (count s)) in (
      read_policy (byte_at s 0),
      record {
        commands = read_commands s (count s);
        said = _;
        end = _;
        known = _;
        sheet = good_sheet s bytes good;
        run = run;
        list = known_of_is (sound (record { commands = read_commands s (count s); said = _; run = run }));
      },
    )

-- a call's number and buffer are those of any reply to the sheet
by_reply : {s before after : List ℕ} {r : ℕ} {to : Reply} → CalledOn s before after r → Replies s to
    → call to before ≡ record { number = r; buffer = after }
by_reply {before = before} called to = called_unique to called.replies before ∙ called.is

both : {called : Called} {n r : ℕ} {b after : List ℕ} → called ≡ record { number = n; buffer = b }
    → called ≡ record { number = r; buffer = after }
    → (r ≡ n) × (after ≡ b)
both e f = (ap (λ (c : Called). c.number) (sym f ∙ e), ap (λ (c : Called). c.buffer) (sym f ∙ e))

-- Every byte string and every buffer have a number and a buffer afterwards ..
pub every_sheet : (s : List ℕ) → Bytes s → (before : List ℕ) → (r : ℕ) × (after : List ℕ) × CalledOn s before after r
every_sheet s bytes before = (
  (call (reply s) before).number,
  (call (reply s) before).buffer,
  record { the_reply = reply s; replies = replies s bytes; is = refl },
)

-- .. and only one: two results that meet the contract are equal
pub one_result : {s before after after' : List ℕ} {r r' : ℕ} → CalledOn s before after r → CalledOn s before after' r'
    → (r ≡ r') × (after ≡ after')
one_result a b = both b.is (by_reply a b.replies)

-- the buffer keeps its length
pub same_length : {s before after : List ℕ} {r : ℕ} → CalledOn s before after r → length after ≡ length before
same_length {before = before} called =
    ap (λ (c : Called). length c.buffer) (sym called.is) ∙ call_length called.the_reply before

-- Demand 1. "A malformed sheet is not run at all; its first fault is named": 12 with the place is given, nothing is written, and it
-- is the sheet of no run
pub malformed_named : {s before after : List ℕ} {r place : ℕ} → CalledOn s before after r → first_fault s ≡ some place
    → (r ≡ answer_number 12 place) × (after ≡ before)
malformed_named {before = before} {place = place} called e = both (call_malformed place before) (by_reply called (is_malformed e))

pub malformed_not_run : {s : List ℕ} {p : Policy} {place : ℕ} → first_fault s ≡ some place → RunOf s p → ⊥
malformed_not_run e of = no_sheet_of_commands e of.sheet

module _ {s : List ℕ} {p : Policy} (of : RunOf s p) where
  replied : Replies s (reported of.said of.known)
  replied = has_run of.sheet of.run of.list

  -- "A report buffer that is too short is not written": 13 is given
  pub short_not_written : {before after : List ℕ} {r : ℕ} → CalledOn s before after r → length before < length (report of)
      → (r ≡ answer_number 13 0) × (after ≡ before)
  short_not_written {before} called short = both (call_short of.said of.known before short) (by_reply called replied)

  -- in any other the report stands at the front, and 0 is given with its length
  pub whole_report_written : {before after : List ℕ} {r : ℕ} → CalledOn s before after r → length (report of) ≤ length before
      → (r ≡ answer_number 0 (length (report of))) × (after ≡ over (report of) before)
  whole_report_written {before} called fits = both (call_fits of.said of.known before fits) (by_reply called replied)

  -- "It needs 4 + 3n + 2m bytes": n commands, m known keys
  pub how_long : length (report of) ≡ 4 + 3 * length of.commands + 2 * length of.known
  how_long = omega (arith, report_length of.said of.known, one_answer_each of.run)

  -- "further bytes of the buffer stay unwritten"
  pub bytes_behind_stay : {before after : List ℕ} {r : ℕ} → CalledOn s before after r
      → drop (length (report of)) after ≡ drop (length (report of)) before
  bytes_behind_stay {before} called =
      ap (λ (c : Called). drop (length (report of)) c.buffer) (sym (by_reply called replied))
      ∙ call_behind of.said of.known before

-- what a call comes to, by its answer and by what stands beside the answer in the number
pub data Says (s before after : List ℕ) (answer rest : ℕ) : Type 0 where
  reports : {p : Policy} (of : RunOf s p) → answer ≡ 0 → rest ≡ length (report of) → after ≡ over (report of) before
      → Says s before after answer rest
  names_the_fault : FirstFault s rest → answer ≡ 12 → after ≡ before → Says s before after answer rest
  has_no_room : {p : Policy} (of : RunOf s p) → length before < length (report of) → answer ≡ 13 → rest ≡ 0 → after ≡ before
      → Says s before after answer rest

pub record Answered (s before after : List ℕ) (r : ℕ) : Type 0 where
  pub answer : ℕ
  pub rest : ℕ
  pub below : rest < 65536
  pub is_number : r ≡ answer_number answer rest
  pub says : Says s before after answer rest

fault_answered : {s before after : List ℕ} {r place : ℕ} → CalledOn s before after r → first_fault s ≡ some place
    → Answered s before after r
fault_answered {s = s} {place = place} called e =
    let is = malformed_named called e in
    record {
      answer = 12;
      rest = place;
      below = place_below s e;
      is_number = is.0;
      says = names_the_fault ((first_fault_some s place).0 e) refl is.1;
    }

fits_answered : {s before after : List ℕ} {r : ℕ} {p : Policy} → CalledOn s before after r → (of : RunOf s p)
    → length (report of) ≤ length before
    → Answered s before after r
fits_answered called of fits =
    let is = whole_report_written of called fits in
    record {
      answer = 0;
      rest = length (report of);
      below = report_below of.run of.list of.sheet;
      is_number = is.0;
      says = reports of refl refl is.1;
    }

short_answered : {s before after : List ℕ} {r : ℕ} {p : Policy} → CalledOn s before after r → (of : RunOf s p)
    → length before < length (report of)
    → Answered s before after r
short_answered called of short =
    let is = short_not_written of called short in
    record { answer = 13; rest = 0; below = omega arith; is_number = is.0; says = has_no_room of short refl refl is.1 }

reply_answered : {s before after : List ℕ} {r : ℕ} {to : Reply} → CalledOn s before after r → Replies s to → Answered s before after r
reply_answered called (is_malformed e) = fault_answered called e
reply_answered {s} {before} called (has_run {p = p} {said = said} {known = known} sheet run list) =
    let of : RunOf s p = record { commands = _; said = said; end = _; known = known; sheet = sheet; run = run; list = list } in
    bool_cases (leb (length (report of)) (length before)) (λ fits. fits_answered called of (leb-true _ _ fits))
    (λ short. short_answered called of (leb-false _ _ short))

-- "Each sheet, good or damaged, .. gets an answer from the fixed table, and the engine stops": of every call, 0 with a report of the
-- sheet's run, 12 with the place of its first fault, or 13. (That the call ends is part of what is proved of the function.)
pub sheet_answered : {s before after : List ℕ} {r : ℕ} → CalledOn s before after r → Answered s before after r
sheet_answered called = reply_answered called called.replies

-- .. and which of them it is can be read off the number: however the number is parted, this is what the call came to
same_says : {s before after : List ℕ} {a b x y : ℕ} → a ≡ b → x ≡ y → Says s before after a x → Says s before after b y
same_says e f says = rw (← e, ← f) says

pub read_off : {s before after : List ℕ} {r : ℕ} → CalledOn s before after r → (answer rest : ℕ) → rest < 65536
    → r ≡ answer_number answer rest
    → Says s before after answer rest
read_off called answer rest below e =
    let a = sheet_answered called in
    let same = number_tells a.answer answer a.rest rest a.below below (sym a.is_number ∙ e) in
    same_says same.0 same.1 a.says

-- Demands 1 and 2 on each command of the run that is reported
module _ {s : List ℕ} {p : Policy} (of : RunOf s p) (i : ℕ) {c : Command} (named : get_elem? of.commands i ≡ some c) where
  fresh_reached : Reachable p fresh
  fresh_reached = record { commands = []; said = []; run = ends }

  -- command i is a step from the state that the commands before it lead to, and record i is its answer
  pub command : Stepped p c of.said i
  command = each_command fresh_reached of.run i c named

  -- ".. and each command gets an answer from the fixed table": 0, or a number from 2 to 11
  pub command_answered : (command.answered.answer ≡ 0) ⊎ ((2 ≤ command.answered.answer) × (command.answered.answer ≤ 11))
  command_answered = answer_in_table command.step

  -- "A refused command gives value 0 and changes neither the token nor what the caller knows."
  pub refused_changes_nothing : ¬ (command.answered.answer ≡ 0)
      → (command.answered.value ≡ 0) × (command.after ≡ command.before)
  refused_changes_nothing = refused_leaves command.step

  -- Demand 2. "Each command is refused exactly when the rules of document 01 refuse it, with the number they give": the answer is n
  -- other than 0 exactly where n is the smallest number of the table whose test applies
  pub refused_exactly : (n : ℕ) → ¬ (n ≡ 0)
      → (command.answered.answer ≡ n) ↔ FirstRefusal (refusals p command.step.held command.before.now c) n
  refused_exactly = by_first_refusal command.step

  pub done_exactly : (command.answered.answer ≡ 0) ↔ NoneApplies (refusals p command.step.held command.before.now c)
  done_exactly = by_no_refusal command.step

  -- ".. and otherwise answers as they say": the value is the number of what the command answers, and the state is the one after it
  pub done_answers : command.answered.answer ≡ 0
      → (command.answered.value ≡ number_in command.after.now.table (answers command.before.now c))
      × (command.after ≡ after command.before c)
  done_answers = done_steps command.step

-- no other run has the same report: the bytes of a report tell the answers and the known keys
pub report_told : {s s' : List ℕ} {p p' : Policy} (of : RunOf s p) (of' : RunOf s' p') → report of ≡ report of'
    → (of.said ≡ of'.said) × (of.known ≡ of'.known)
report_told of of' e = report_tells of.said of'.said of.known of'.known e

-- Demand 3. "From a fresh token, under one policy, after any run of commands, the list names each key the caller can work out, once,
-- ascending, and no other": the keys of the report are the known list of the state at the end
pub known_list : {s : List ℕ} {p : Policy} (of : RunOf s p) → KnownList of.end of.known
known_list of = of.list

end_reached : {s : List ℕ} {p : Policy} (of : RunOf s p) → Reachable p of.end
end_reached of = record { commands = of.commands; said = of.said; run = of.run }

listed_known : {s : List ℕ} {p : Policy} (of : RunOf s p) {k : ℕ} → (k ∈ of.known) ↔ Known of.end k
listed_known of = (of.list.no_other, of.list.each)

-- "Under STP and STP+ these are exactly the corrupted keys, the caller's own, and keys the token wrapped, step by step, under one of
-- these."
pub listed_under_stp : {s : List ℕ} (of : RunOf s stp) {k : ℕ} → (k ∈ of.known) ↔ IsCompromised of.end k
listed_under_stp of = Iff.trans (listed_known of) (stp_known (end_reached of))

pub listed_under_stp+ : {s : List ℕ} (of : RunOf s stp+) {k : ℕ} → (k ∈ of.known) ↔ IsCompromised of.end k
listed_under_stp+ of = Iff.trans (listed_known of) (stp+_known (end_reached of))

-- "Under STP+, until a first key is corrupted, no live handle stands for a caller's key": before each command, and at the end
pub no_handle_for_an_own_key : {s : List ℕ} (of : RunOf s stp+) (i : ℕ) {c : Command} (named : get_elem? of.commands i ≡ some c)
    → {k f : ℕ}
    → (command of i named).before.past.corrupted ≡ []
    → live k f ∈ (command of i named).before.now.handles
    → key k ∈ (command of i named).before.past.own
    → ⊥
no_handle_for_an_own_key of i named = no_own_handle (command of i named).reached

pub no_handle_at_the_end : {s : List ℕ} (of : RunOf s stp+) {k f : ℕ} → of.end.past.corrupted ≡ []
    → live k f ∈ of.end.now.handles
    → key k ∈ of.end.past.own
    → ⊥
no_handle_at_the_end of = no_own_handle (end_reached of)
