-- There and back, in the words of the contracts of reader and writer: what is written is read as the commands that were handed over,
-- and what is read from an accepted sheet, handed over again, is written as the same bytes. Rests on the writer's RoundTrips and
-- NoneLost, and on the reader's GoodEntries.
use Rattle.std.specs.Prelude.{None, Ok, Err, Option, Some, Result}
use Prim.Native.Nat.{ℕ, zero, suc, ◌*◌, ◌≤◌, ◌<◌}
use native.Mathlib.Nat.{eq-or-lt_of_le, le_of_suc-le-suc}
use native.Mathlib.Omega.{arith}
use mathlib.Core.Path.{◌≡◌, sym, ap, ap₂, subst, ◌∙◌}
use mathlib.Core.Logic.{⊎_elim}
use mathlib.Core.List.{List, [], ◌∷◌, ◌++◌}
use mathlib.Core.Option.{none, some}
use lib.ListN.{length, take, drop, get_elem?, length-drop}
use lib.Seq.{length-take-le}
use Rattle.terms.proofs.Lists.{at_append, at_end}
use Rattle.rules.specs.Commands.{Command, number}
use Rattle.sheets.specs.Bytes.{Bytes}
use Rattle.sheets.specs.Sheets.{Sheet}
use Rattle.sheets.specs.Faults.{body_length, count, entry_number, bodies_end, first_fault}
use Rattle.sheets.specs.Reading.{read_policy}
use Rattle.sheets.specs.Calls.{answer_number, over}
use Rattle.sheets.proofs.Calls.{over_front}
use Rattle.sheets.proofs.Faultless.{none_faultless}
use Rattle.sheets.proofs.Good.{one_reading}
use Rattle.shapes.specs.Commands.{stored_command}
use Rattle.shapes.specs.declared.SheetEntry.{SheetEntry}
use Rattle.reader.specs.Reader.{checked, checked_number, body_at, entry_at}
use Rattle.reader.proofs.GoodEntries.{checked_good, good_body, good_entry, reads_all}
use Rattle.reader.specs.declared.Header.{Header}
use Rattle.reader.specs.declared.Malformed.{Malformed}
use Rattle.shapes.specs.declared.CallError.{CallError}
use Rattle.shapes.specs.declared.CallError.TheVariants.{Malformed as Unholdable, Short as NoRoom}
use Rattle.writer.specs.Writer.{record_length, handed_number, handed_length, handed_body, handed_commands}
use Rattle.writer.specs.Writer.{first_unholdable, Wrote, wrote, written_number}
use Rattle.writer.proofs.Handed.{all_held, handed_count, handed_command, handed_numbered}
use Rattle.writer.proofs.Unique.{exactly, sheet_at_front}
use Rattle.writer.proofs.Asked.{asked_is_sheet}
use Rattle.writer.proofs.RoundTrips.{Hands, written_reads_back, read_writes_again}
use Rattle.writer.proofs.NoneLost.{none_lost}
use Rattle.vachodien.specs.Replied.{SheetWritten}

-- command i of those that are handed over is that of record i
record_at : (handed : List ℕ) (n i : ℕ) → i < n → get_elem? (handed_commands handed n) i ≡ some (handed_command handed i)
unfolding handed_commands
record_at handed zero i h = absurd (omega arith)
record_at handed (suc n) i h =
    let all = handed_commands handed n in
    let last = handed_command handed n in
    ⊎_elim
    (λ (e : i ≡ n). rw e (subst (λ (k : ℕ). get_elem? (all ++ last ∷ []) k ≡ some last) (handed_count handed n) (at_end all last)))
    (λ (l : i < n). at_append all (last ∷ []) i (record_at handed n i l))
    (eq-or-lt_of_le (le_of_suc-le-suc h))

-- what was written: `long` bytes at the front of the buffer
module _ (policy n : ℕ) (handed before : List ℕ) (bytes : Bytes handed) {long : ℕ} {after : List ℕ}
    (written : wrote policy n handed before ≡ record { answer = Ok long; buffer = after }) where
  all_holdable : first_unholdable policy n handed ≡ none
  all_holdable = ((exactly policy n handed before (Ok long) after).0 written).0

  -- it is the sheet of the commands that were handed over
  pub written_is_sheet : Sheet (take long after) (read_policy policy) (handed_commands handed n)
  written_is_sheet =
      subst (λ (s : List ℕ). Sheet s (read_policy policy) (handed_commands handed n))
      (sym (sheet_at_front policy n handed before written))
      (asked_is_sheet policy n handed bytes all_holdable)

  -- it is checked as good, with the policy and the count
  pub written_is_good : checked (take long after) ≡ Ok (record { policy = policy; count = n })
  written_is_good =
      let reads = written_reads_back policy n handed before bytes long after written in
      (checked_good (take long after) policy n).1
      (record { no_fault = reads.accepted; its_policy = reads.its_policy; its_count = reads.its_count })

  -- and entry i is read as command i of those that were handed over
  pub written_is_read : (i : ℕ) {c : Command} → get_elem? (handed_commands handed n) i ≡ some c
      → entry_at (take long after) i ≡ Some (record { number = number c; command = stored_command c })
  written_is_read i e = reads_all written_is_sheet i e

  -- .. which is the number and the command of record i
  pub record_is_read : (i : ℕ) → i < n
      → entry_at (take long after) i
      ≡ Some (record { number = handed_number handed i; command = stored_command (handed_command handed i) })
  record_is_read i h =
      written_is_read i (record_at handed n i h)
      ∙ ap (λ (k : ℕ). Some (record { number = k; command = stored_command (handed_command handed i) }))
      (handed_numbered handed bytes i ((all_held policy n handed all_holdable).1.each i h))

-- no two lists of commands, and no two policies, share a sheet
abbrev header_in : Result Header Malformed → Header
header_in (Ok header) = header
header_in (Err fault) = record { policy = 0; count = 0 }

same_good : {policy n policy' n' : ℕ} {r : Result Header Malformed} → r ≡ Ok (record { policy = policy; count = n })
    → r ≡ Ok (record { policy = policy'; count = n' })
    → (policy ≡ policy') × (n ≡ n')
same_good e f = let same = ap header_in (sym e ∙ f) in (ap (λ (h : Header). h.policy) same, ap (λ (h : Header). h.count) same)

pub no_sheet_shared : (policy n : ℕ) (handed before : List ℕ) → Bytes handed → {long : ℕ} {after : List ℕ}
    → wrote policy n handed before ≡ record { answer = Ok long; buffer = after }
    → (policy' n' : ℕ) (handed' before' : List ℕ)
    → Bytes handed'
    → {long' : ℕ} {after' : List ℕ}
    → wrote policy' n' handed' before' ≡ record { answer = Ok long'; buffer = after' }
    → take long after ≡ take long' after'
    → (policy ≡ policy') × (n ≡ n') × (handed_commands handed n ≡ handed_commands handed' n')
no_sheet_shared policy n handed before bytes w policy' n' handed' before' bytes' w' same =
    let good = written_is_good policy n handed before bytes w in
    let good' = written_is_good policy' n' handed' before' bytes' w' in
    let (p, m) = same_good (ap checked (sym same) ∙ good) good' in
    let sheet = written_is_sheet policy n handed before bytes w in
    let sheet' = written_is_sheet policy' n' handed' before' bytes' w' in
    (p, m, (one_reading (rw same at sheet) sheet').1)

-- entry i of a sheet, handed over again: the number that is read, the body's length and the body
pub record HandsOn (s handed : List ℕ) (i : ℕ) : Type 0 where
  pub entry : SheetEntry
  pub read : entry_at s i ≡ Some entry
  pub whole : record_length * suc i ≤ length handed
  pub its_number : handed_number handed i ≡ entry.number
  pub its_length : handed_length handed i ≡ length (body_at s i)
  pub its_body : handed_body handed i ≡ body_at s i

-- the number that an entry states
stated_number : Option SheetEntry → ℕ
stated_number (Some entry) = entry.number
stated_number None = 0

module _ (s : List ℕ) (good : first_fault s ≡ none) (handed : List ℕ) (i : ℕ) (inside : i < count s) where
  body_long : length (body_at s i) ≡ body_length (entry_number s i)
  unfolding bodies_end
  body_long =
      ap length (good_body s i good inside)
      ∙ length-take-le _ (drop (bodies_end s i) s)
      (rw length-drop (omega (arith, (((none_faultless s).0 good).entries i inside).inside)))

  hands_again : HandsOn s handed i → Hands s handed i
  unfolding stated_number
  hands_again h =
      record {
        whole = h.whole;
        its_number = h.its_number ∙ ap stated_number (sym h.read ∙ good_entry s i good inside);
        its_length = h.its_length ∙ body_long;
        its_body = h.its_body ∙ good_body s i good inside;
      }

-- an accepted sheet ..
module _ (s : List ℕ) (bytes : Bytes s) {policy n : ℕ} (accepted : checked s ≡ Ok (record { policy = policy; count = n })) where
  -- .. whose entries are handed over again is written as the same bytes
  pub written_again : (handed : List ℕ) → ((i : ℕ) → i < n → HandsOn s handed i) → (before : List ℕ) → length s ≤ length before
      → wrote policy n handed before ≡ record { answer = Ok (length s); buffer = over s before }
  written_again handed hands before room =
      let g = (checked_good s policy n).0 accepted in
      let again : (i : ℕ) → i < count s → Hands s handed i =
      λ i inside. hands_again s g.no_fault handed i inside (hands i (rw g.its_count at inside)) in
      ap₂ (λ (p m : ℕ). wrote p m handed before) (sym g.its_policy) (sym g.its_count)
      ∙ read_writes_again s bytes g.no_fault handed again before room

  -- .. and stands at the front of the buffer, all of it
  pub same_bytes : (before : List ℕ) → take (length s) (over s before) ≡ s
  same_bytes before = over_front s before

  -- no accepted sheet is lost: some records are written as it
  pub not_lost : (handed : List ℕ) × Bytes handed
      × ((before : List ℕ) → length s ≤ length before
      → wrote policy n handed before ≡ record { answer = Ok (length s); buffer = over s before })
  not_lost =
      let g = (checked_good s policy n).0 accepted in
      rw (← g.its_policy, ← g.its_count) (none_lost s bytes g.no_fault)

-- Of the calls from C: a number below 65,536 is the length of a sheet that was written
sheet_told : (w : Result ℕ CallError) (long : ℕ) → long < 65536 → answer_number 0 long ≡ written_number w → w ≡ Ok long
unfolding written_number answer_number
sheet_told (Ok l) long h e = let same : l ≡ long = omega arith in ap Ok same
sheet_told (Err (Unholdable place)) long h e = absurd (omega arith)
sheet_told (Err NoRoom) long h e = absurd (omega arith)

same_wrote : (w : Wrote) {answer : Result ℕ CallError} {buffer : List ℕ} → w.answer ≡ answer → buffer ≡ w.buffer
    → w ≡ record { answer = answer; buffer = buffer }
same_wrote w e f = λ i. record { answer = e i; buffer = sym f i }

pub call_wrote : (policy n : ℕ) (handed before after : List ℕ) (long : ℕ) → long < 65536
    → SheetWritten policy n handed before after (answer_number 0 long)
    → wrote policy n handed before ≡ record { answer = Ok long; buffer = after }
call_wrote policy n handed before after long h called =
    same_wrote (wrote policy n handed before) (sheet_told (wrote policy n handed before).answer long h called.number) called.buffer

-- .. so what `vachodien_write` wrote `vachodien_check` finds good, with the count
pub call_checks : (policy n : ℕ) (handed before after : List ℕ) → Bytes handed → (long : ℕ) → long < 65536
    → SheetWritten policy n handed before after (answer_number 0 long)
    → checked_number (checked (take long after)) ≡ answer_number 0 n
unfolding checked_number
call_checks policy n handed before after bytes long h called =
    ap checked_number (written_is_good policy n handed before bytes (call_wrote policy n handed before after long h called))
