-- The reply to a sheet, of what a run leaves of it: a malformed sheet is answered with its place, a good one with the report of its
-- run. Rests on the token's KnownShown and on the sheets' Calls.
use Prim.Native.Nat.{ℕ, ◌*◌}
use mathlib.Core.Path.{◌≡◌, refl, sym, ap, ◌∙◌}
use mathlib.Core.Bool.{Bool, true, false}
use mathlib.Core.List.{List, ◌++◌}
use Rattle.std.specs.Prelude.{Result, Ok, Err}
use Rattle.std.specs.Result.{IsErrAnd}
use lib.Dec.{leb}
use lib.ListN.{length, take}
use Rattle.sheets.specs.Bytes.{two}
use Rattle.sheets.specs.Reports.{malformed, reported, is_malformed, has_run as ran_to_its_end, records_bytes, keys_bytes, report_bytes}
use Rattle.sheets.specs.Calls.{answer_number, over, report_into, call}
use Rattle.sheets.proofs.Reports.{records_length}
use Rattle.sheets.proofs.Calls.{over_front}
use Rattle.running.specs.declared.Ran.{Ran}
use Rattle.token.specs.Known.{marked_keys}
use Rattle.running.specs.Run.{RanSheet}
use Rattle.running.proofs.RunTold.{fault_told, has_run, answers_counted, known_told}
use Rattle.reader.specs.declared.Malformed.{Malformed}
use Rattle.token.specs.declared.Short.{Short}
use Rattle.shapes.specs.declared.CallError.{CallError}
use Rattle.shapes.specs.declared.CallError.TheVariants.{Malformed as MalformedAt, Short as NoRoom}
use Rattle.vachodien.specs.Replied.{CalledOn, left_report, reported_as, put_as, reported_number, call_number, ReportedInto}

-- the number for what was reported, and what the buffer holds
into_is : (fits : Bool) (report before : List ℕ) (x : Result ℕ Short) (after : List ℕ) (number : ℕ) → x ≡ reported_as fits (length report)
    → after ≡ put_as fits report before
    → number ≡ reported_number x
    → report_into fits report before ≡ record { number = number; buffer = after }
unfolding report_into answer_number reported_number
into_is true report before x after number a w e = rw (e, a, w) refl
into_is false report before x after number a w e = rw (e, a, w) refl

-- a report that found no room, as the call's own error
pub no_room : (r : Result ℕ CallError) (x : Result ℕ Short) (short : Short) → IsErrAnd r (λ e. e ≡ NoRoom) → x ≡ Err short
    → call_number r ≡ reported_number x
unfolding call_number reported_number
no_room (Ok given) x short h e = absurd h
no_room (Err why) x short h e = rw (h, e) refl

module _ {s start records : List ℕ} {r : Ran} (ran : RanSheet s start records r) where
  -- a malformed sheet
  pub malformed_called : {fault : Malformed} → r.checked ≡ Err fault → (answer : Result ℕ CallError)
      → IsErrAnd answer (λ e. e ≡ MalformedAt fault.place)
      → (before : List ℕ)
      → CalledOn s before before (call_number answer)
  unfolding call call_number
  malformed_called e (Ok given) told before = absurd told
  malformed_called {fault} e (Err why) told before =
      rw told
      (record {
        the_reply = malformed fault.place;
        replies = is_malformed (fault_told ran e);
        is = refl;
      })

  -- a good one: what was said, and the state at the end
  module _ {policy n : ℕ} (e : r.checked ≡ Ok (record { policy = policy; count = n })) where
    -- the report of what a run leaves is the report of the run
    report_is : left_report n records r.token ≡ report_bytes (has_run ran e).said (marked_keys r.token.table.entries)
    unfolding left_report report_bytes
    report_is =
        let front : take (3 * n) records ≡ records_bytes (has_run ran e).said =
        ap (take (3 * n)) (has_run ran e).written
        ∙ ap (λ (k : ℕ). take k (over (records_bytes (has_run ran e).said) start)) (ap (λ (k : ℕ). 3 * k) (answers_counted ran e) ∙ sym (records_length (has_run ran e).said))
        ∙ over_front (records_bytes (has_run ran e).said) start in
        let list = marked_keys r.token.table.entries in
        ap (λ (w : List ℕ). two n ++ two (length list) ++ w ++ keys_bytes list) front
        ∙ ap (λ (k : ℕ). two k ++ two (length list) ++ records_bytes (has_run ran e).said ++ keys_bytes list) (answers_counted ran e)

    pub good_called : (before after : List ℕ) (x : Result ℕ Short) → ReportedInto n records r.token before after x
        → (number : ℕ)
        → number ≡ reported_number x
        → CalledOn s before after number
    unfolding call
    good_called before after x into number is_number =
        let report = report_bytes (has_run ran e).said (marked_keys r.token.table.entries) in
        record {
          the_reply = reported (has_run ran e).said (marked_keys r.token.table.entries);
          replies = ran_to_its_end (has_run ran e).sheet (has_run ran e).run (known_told ran e);
          is =
              into_is (leb (length report) (length before)) report before x after number
              (into.answered ∙ ap (λ (w : List ℕ). reported_as (leb (length w) (length before)) (length w)) report_is)
              (into.written ∙ ap (λ (w : List ℕ). put_as (leb (length w) (length before)) w before) report_is) is_number;
        }
