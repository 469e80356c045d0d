-- The three demands, sentence by sentence, as theorems over the definitions: this file can be read alone, beside specs/ of terms,
-- rules and sheets. Every proof is a citation. Rests on the theorems of rules and sheets.
use Prim.Native.Nat.{ℕ, ◌≤◌, ◌<◌}
use mathlib.Core.Path.{◌≡◌, refl, ap}
use mathlib.Core.Logic.{◌↔◌, ◌⊎◌}
use mathlib.Core.List.{List, []}
use mathlib.Core.Option.{none, some}
use lib.ListN.{length}
use Rattle.terms.specs.Lists.{◌∈◌}
use Rattle.terms.specs.Terms.{key}
use Rattle.terms.specs.WorkingOut.{Held}
use Rattle.rules.specs.Templates.{Policy, plain, stp, stp+}
use Rattle.rules.specs.Commands.{Command}
use Rattle.rules.specs.State.{State, live, fresh}
use Rattle.rules.specs.Changes.{answers, after}
use Rattle.rules.specs.Refusals.{refusals}
use Rattle.rules.specs.Runs.{Answer, number_in, Step, Run, Reachable}
use Rattle.rules.specs.Known.{Known, IsCompromised, KnownList}
use Rattle.rules.specs.Computing.{next_outcome, said_by, end_of, known_of}
use Rattle.rules.proofs.FirstRefusal.{NoneApplies, FirstRefusal}
use Rattle.rules.proofs.Steps.{step_unique, run_unique, answer_in_table, refused_leaves, done_steps, refused_exactly as by_first_refusal, done_exactly as by_no_refusal}
use Rattle.rules.proofs.SoundKept.{sound}
use Rattle.rules.proofs.Computed.{computed_step, has_run}
use Rattle.rules.proofs.KnownLists.{known_list_unique, known_of_is}
use Rattle.rules.proofs.KnownCompromised.{stp_known, stp+_known}
use Rattle.rules.proofs.NoOwnHandle.{no_own_handle}
use Rattle.rules.proofs.PlainDiffers.{plain_differs}
use Rattle.sheets.specs.Bytes.{Bytes}
use Rattle.sheets.specs.Sheets.{Sheet}
use Rattle.sheets.specs.Faults.{first_fault}
use Rattle.sheets.specs.Reports.{Reply, malformed, reported, Replies, is_malformed, report_bytes}
use Rattle.sheets.specs.Calls.{Called, call}
use Rattle.sheets.specs.Reading.{reply}
use Rattle.sheets.proofs.Good.{one_reading, one_sheet, good_exactly}
use Rattle.sheets.proofs.Replied.{replies, reply_unique}
use Rattle.sheets.proofs.Calls.{call_short}

-- Demand 1. "Each sheet, good or damaged, .. gets an answer from the fixed table, and the engine stops": every byte string has
-- a reply, 12 with a place or a report, and only one
pub sheet_answered : (s : List ℕ) → Bytes s → (r : Reply) × Replies s r
sheet_answered s b = (reply s, replies s b)

pub sheet_answer_unique : {s : List ℕ} {r r' : Reply} → Replies s r → Replies s r' → r ≡ r'
sheet_answer_unique = reply_unique

-- ".. and each command gets an answer from the fixed table": in every state that can be reached, every command has an outcome,
-- only one, and its answer is 0 or a number from 2 to 11
pub command_answered : {p : Policy} {s : State} → Reachable p s → (c : Command) → (a : Answer) × (next : State) × Step p s c a next
command_answered {p} {s} r c = ((next_outcome p s c).said, (next_outcome p s c).next, computed_step (sound r) c)

pub command_answer_unique : {p : Policy} {s : State} {c : Command} {a a' : Answer} {next next' : State}
    → Step p s c a next
    → Step p s c a' next'
    → (a ≡ a') × (next ≡ next')
command_answer_unique = step_unique

pub answer_from_the_table : {p : Policy} {s : State} {c : Command} {a : Answer} {next : State}
    → Step p s c a next
    → (a.answer ≡ 0) ⊎ ((2 ≤ a.answer) × (a.answer ≤ 11))
answer_from_the_table = answer_in_table

-- "A refused command gives value 0 and changes neither the token nor what the caller knows."
pub refused_changes_nothing : {p : Policy} {s : State} {c : Command} {a : Answer} {next : State}
    → Step p s c a next
    → ¬ (a.answer ≡ 0)
    → (a.value ≡ 0) × (next ≡ s)
refused_changes_nothing = refused_leaves

-- "A malformed sheet is not run at all; its first fault is named."
pub malformed_named : {s : List ℕ} {place : ℕ} {r : Reply} → first_fault s ≡ some place → Replies s r → r ≡ malformed place
malformed_named e r = reply_unique r (is_malformed e)

-- "A report buffer that is too short is not written."
pub short_buffer_not_written : (said : List Answer) (known buffer : List ℕ)
    → length buffer < length (report_bytes said known)
    → (call (reported said known) buffer).buffer ≡ buffer
short_buffer_not_written said known buffer short = ap (λ (c : Called). c.buffer) (call_short said known buffer short)

-- Demand 2. "Each command is refused exactly when the rules of document 01 refuse it, with the number they give": the answer is n
-- other than 0 exactly where n is the smallest number of the table whose test applies
pub refused_exactly : {p : Policy} {s : State} {c : Command} {a : Answer} {next : State}
    → (step : Step p s c a next)
    → (n : ℕ)
    → ¬ (n ≡ 0)
    → (a.answer ≡ n) ↔ FirstRefusal (refusals p step.held s.now c) n
refused_exactly = by_first_refusal

pub done_exactly : {p : Policy} {s : State} {c : Command} {a : Answer} {next : State}
    → (step : Step p s c a next)
    → (a.answer ≡ 0) ↔ NoneApplies (refusals p step.held s.now c)
done_exactly = by_no_refusal

-- ".. and otherwise answers as they say": the value is the number of what the command answers, and the state is the one after it
pub done_answers : {p : Policy} {s : State} {c : Command} {a : Answer} {next : State}
    → Step p s c a next
    → a.answer ≡ 0
    → (a.value ≡ number_in next.now.table (answers s.now c)) × (next ≡ after s c)
done_answers = done_steps

-- "A written sheet reads back as the same commands": what commands are written as has no other reading
pub written_reads_back : {s : List ℕ} {p p' : Policy} {cs cs' : List Command} → Sheet s p cs → Sheet s p' cs' → (p ≡ p') × (cs ≡ cs')
written_reads_back = one_reading

-- ".. and an accepted sheet written again has the same bytes": accepted is to be the sheet of some commands, and their sheet is one
pub accepted_is_a_sheet : (s : List ℕ) → Bytes s → (first_fault s ≡ none) ↔ ((p : Policy) × (cs : List Command) × Sheet s p cs)
accepted_is_a_sheet = good_exactly

pub written_again : {s s' : List ℕ} {p : Policy} {cs : List Command} → Sheet s p cs → Sheet s' p cs → s ≡ s'
written_again = one_sheet

-- Demand 3. "From a fresh token, under one policy, after any run of commands, the list names each key the caller can work out,
-- once, ascending, and no other": every run has an end, one only, and its end one such list
pub every_run : (p : Policy) (cs : List Command) → (said : List Answer) × (end : State) × (list : List ℕ) × Run p fresh cs said end × KnownList end list
every_run p cs = (
  said_by p fresh cs,
  end_of p fresh cs,
  known_of (end_of p fresh cs),
  has_run p cs,
  known_of_is (sound (record { commands = cs; said = said_by p fresh cs; run = has_run p cs })),
)

pub one_run : {p : Policy} {cs : List Command} {said said' : List Answer} {end end' : State}
    → Run p fresh cs said end
    → Run p fresh cs said' end'
    → (said ≡ said') × (end ≡ end')
one_run = run_unique

pub one_list : {s : State} {list list' : List ℕ} → KnownList s list → KnownList s list' → list ≡ list'
one_list = known_list_unique

-- "To work out means a finite chain of sealing and opening, through terms of any size, from the caller's own keys and data and
-- the token's answers": this is the definition, Held over what is own and what was given
pub known_is_worked_out : (s : State) (k : ℕ) → Known s k ≡ Held s.past.own s.past.given (key k)
known_is_worked_out s k = refl

-- "Under STP and STP+ these are exactly the corrupted keys, the caller's own, and keys the token wrapped, step by step, under
-- one of these."
pub known_under_stp : {s : State} {k : ℕ} → Reachable stp s → Known s k ↔ IsCompromised s k
known_under_stp = stp_known

pub known_under_stp+ : {s : State} {k : ℕ} → Reachable stp+ s → Known s k ↔ IsCompromised s k
known_under_stp+ = stp+_known

-- plain is left out with reason: there a key can be known that is none of these (exercise A)
pub not_under_plain : (s : State) × Reachable plain s × Known s 1 × (IsCompromised s 1 → ⊥)
not_under_plain = plain_differs

-- "Under STP+, until a first key is corrupted, no live handle stands for a caller's key."
pub no_handle_for_an_own_key : {s : State} {k f : ℕ}
    → Reachable stp+ s
    → s.past.corrupted ≡ []
    → live k f ∈ s.now.handles
    → key k ∈ s.past.own
    → ⊥
no_handle_for_an_own_key = no_own_handle
