-- The text of a sheet, of what running it leaves; that two results of writing it are equal, and that
-- it lies inside the buffer. Rests on Printed and on the run's
-- RunTold.
use Rattle.std.specs.Prelude.{Err, Ok}
use Prim.Native.Nat.{ℕ, ◌+◌, ◌*◌, ◌≤◌}
use native.Mathlib.Omega.{arith}
use mathlib.Core.Path.{◌≡◌, sym, ap, ◌∙◌}
use mathlib.Core.List.{List}
use lib.ListN.{length}
use Rattle.sheets.specs.Sheets.{bodies_begin}
use Rattle.sheets.specs.Calls.{over}
use Rattle.sheets.proofs.Calls.{over_length}
use Rattle.sheets.proofs.Faultless.{none_faultless}
use Rattle.reader.proofs.GoodEntries.{checked_good}
use Rattle.running.specs.declared.Ran.{Ran}
use Rattle.running.specs.Run.{RanSheet}
use Rattle.running.proofs.RunTold.{fault_told, few_commands, has_run, policy_told, commands_counted, known_told}
use Rattle.text.specs.Text.{malformed_text, is_malformed}
use Rattle.text.specs.Printing.{run_text}
use Rattle.text.specs.Writing.{Printed, TextWritten}
use Rattle.text.proofs.Printed.{run_prints, prints_unique}

module _ {s start records : List ℕ} {r : Ran} (ran : RanSheet s start records r) where
  pub malformed_told : {place : ℕ} → r.checked ≡ Err (record { place = place }) → {before after : List ℕ} {long : ℕ}
      → Printed (malformed_text place) before after long
      → TextWritten s before after long
  malformed_told {place} e printed =
      record { the_text = malformed_text place; prints = is_malformed (fault_told ran e); printed = printed }

  module _ {policy n : ℕ} (e : r.checked ≡ Ok (record { policy = policy; count = n })) where
    -- what writing the text of a run asks
    pub run_asks : (n ≤ 4096) × (3 + 3 * n ≤ length s)
    unfolding bodies_begin
    run_asks =
        let facts = (checked_good s policy n).0 (sym ran.is_checked ∙ e) in
        let header = ((none_faultless s).0 facts.no_fault).header in
        (few_commands ran e, omega (arith, header.table_inside, facts.its_count))

    pub run_told : {before after : List ℕ} {long : ℕ} → Printed (run_text policy s n records r.token.table.entries) before after long
        → TextWritten s before after long
    run_told printed =
        let well = has_run ran e in
        record {
          the_text = run_text policy s n records r.token.table.entries;
          prints =
              run_prints well.sheet well.run (known_told ran e) policy n (policy_told ran e) (commands_counted ran e) records start
              well.written r.token well.shows_end;
          printed = printed;
        }

-- one text, so one length and one buffer
pub text_unique : {s before a b : List ℕ} {m n : ℕ} → TextWritten s before a m → TextWritten s before b n → (m ≡ n) × (a ≡ b)
text_unique {before = before} p q =
    let same = prints_unique p.prints q.prints in (
      p.printed.how_long ∙ ap length same ∙ sym q.printed.how_long,
      p.printed.written ∙ ap (λ (t : List ℕ). over t before) same ∙ sym q.printed.written,
    )

-- the text lies inside the buffer that it is written into
pub text_inside : {s before after : List ℕ} {long : ℕ} → TextWritten s before after long → long ≤ length after
text_inside {before} w =
    let printed = w.printed in
    omega (
      arith,
      printed.how_long,
      printed.fits,
      ap length printed.written ∙ over_length w.the_text before printed.fits,
    )
