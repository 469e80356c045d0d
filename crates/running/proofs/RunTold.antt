-- What running a sheet tells, by what the sheet was found to be: of a good one its policy and commands, what was said, the state at
-- the end and the known list. Rests on KnownShown, and on the reader's and the sheets' laws.
use Rattle.std.specs.Prelude.{Err, Ok}
use Prim.Native.Nat.{ℕ, ◌≤◌}
use native.Mathlib.Omega.{arith}
use mathlib.Core.Path.{◌≡◌, sym, ap, ◌∙◌, subst}
use mathlib.Core.List.{List}
use mathlib.Core.Option.{Option, none, some}
use lib.ListN.{length}
use Rattle.rules.specs.Runs.{Reachable}
use Rattle.rules.specs.Known.{KnownList}
use Rattle.rules.proofs.Prefixes.{one_answer_each}
use Rattle.rules.proofs.SoundKept.{sound}
use Rattle.rules.proofs.KeyOrder.{keys_in_order}
use Rattle.sheets.specs.Sheets.{most_commands}
use Rattle.sheets.specs.Faults.{first_fault}
use Rattle.sheets.specs.Reports.{records_bytes}
use Rattle.sheets.specs.Reading.{read_policy}
use Rattle.sheets.proofs.Reports.{records_length}
use Rattle.sheets.proofs.Calls.{over_length}
use Rattle.sheets.proofs.Good.{sheet_begins, sheet_read}
use Rattle.reader.specs.Reader.{checked}
use Rattle.reader.proofs.GoodEntries.{checked_good, checked_malformed, good_most}
use Rattle.running.specs.declared.Ran.{Ran}
use Rattle.token.specs.Known.{marked_keys}
use Rattle.running.specs.Run.{SheetRan, RunOrNot, RanSheet}
use Rattle.token.proofs.KnownShown.{known_shown}

-- the records stay as long as they were: three bytes for each of at most 4,096 commands
left_long : (s start records : List ℕ) (r : Ran) (fault : Option ℕ) → RunOrNot fault s start records r → length start ≡ 12288
    → length records ≡ 12288
left_long s start records r none ran long =
    let few : length (records_bytes ran.said) ≤ length start =
    omega (arith, records_length ran.said, one_answer_each ran.run, ran.sheet.few) in
    ap length ran.written ∙ over_length (records_bytes ran.said) start few ∙ long
left_long s start records r (some place) ran long = ap length ran.unwritten ∙ long

module _ {s start records : List ℕ} {r : Ran} (ran : RanSheet s start records r) where
  pub records_kept : length start ≡ 12288 → length records ≡ 12288
  records_kept long = left_long s start records r (first_fault s) ran.leaves long

  -- a malformed sheet has its first fault at the place
  pub fault_told : {place : ℕ} → r.checked ≡ Err (record { place = place }) → first_fault s ≡ some place
  fault_told {place} e = (checked_malformed s place).0 (sym ran.is_checked ∙ e)

  -- a good one has run
  module _ {policy n : ℕ} (e : r.checked ≡ Ok (record { policy = policy; count = n })) where
    good : checked s ≡ Ok (record { policy = policy; count = n })
    good = sym ran.is_checked ∙ e

    pub few_commands : n ≤ most_commands
    few_commands = (good_most s good).1

    pub has_run : SheetRan s start records r
    has_run = subst (λ (f : Option ℕ). RunOrNot f s start records r) ((checked_good s policy n).0 good).no_fault ran.leaves

    pub policy_told : read_policy policy ≡ has_run.policy
    policy_told = ap read_policy (sym ((checked_good s policy n).0 good).its_policy) ∙ (sheet_read has_run.sheet).0

    pub commands_counted : n ≡ length has_run.commands
    commands_counted = sym ((checked_good s policy n).0 good).its_count ∙ (sheet_begins has_run.sheet).counted

    pub answers_counted : n ≡ length has_run.said
    answers_counted = commands_counted ∙ sym (one_answer_each has_run.run)

    pub known_told : KnownList has_run.end (marked_keys r.token.table.entries)
    known_told =
        let reached : Reachable has_run.policy has_run.end =
        record { commands = has_run.commands; said = has_run.said; run = has_run.run } in
        known_shown has_run.shows_end (sound reached) (keys_in_order reached)
