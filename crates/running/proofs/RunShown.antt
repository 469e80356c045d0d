-- A good sheet run from a fresh token: what the run asks, and what it leaves; and that two results of running one sheet are equal. Rests
-- on Advancing, Going and Shown, and on the reader's and the sheets' laws.
use Rattle.std.specs.Prelude.{Err, Ok, Result as Either}
use Rattle.reader.specs.declared.Header.{Header}
use Rattle.reader.specs.declared.Malformed.{Malformed}
use Prim.Native.Nat.{ℕ}
use mathlib.Core.Path.{◌≡◌, refl, sym, ◌∙◌, ap, subst}
use mathlib.Core.List.{List}
use mathlib.Core.Option.{Option, none, some}
use native.Mathlib.Omega.{arith}
use lib.ListN.{length}
use Rattle.rules.specs.State.{fresh}
use Rattle.rules.proofs.Steps.{run_unique}
use Rattle.sheets.specs.Bytes.{Bytes, byte_at}
use Rattle.sheets.specs.Sheets.{policy_number}
use Rattle.sheets.specs.Faults.{count, first_fault}
use Rattle.sheets.specs.Reports.{records_bytes}
use Rattle.sheets.specs.Calls.{over}
use Rattle.sheets.specs.Reading.{read_policy, read_commands}
use Rattle.sheets.proofs.Good.{policy_written, good_sheet, one_reading}
use Rattle.reader.specs.Reader.{checked}
use Rattle.reader.proofs.GoodEntries.{checked_good, checked_malformed, good_most}
use Rattle.token.specs.declared.Token.{Token}
use Rattle.running.specs.declared.Ran.{Ran as Result}
use Rattle.token.specs.Known.{blank_token}
use Rattle.running.specs.Direct.{ComesFrom, Reached}
use Rattle.running.specs.Advance.{RunAsks, Ran}
use Rattle.running.specs.Run.{RunOrNot, RanSheet}
use Rattle.token.proofs.Shown.{shows_unique}
use Rattle.running.proofs.Going.{comes_fresh, reached_fresh}

module _ (s : List ℕ) {c : Either Header Malformed} {policy n : ℕ} (found : c ≡ checked s) (good : c ≡ Ok (record { policy = policy; count = n })) where
  is_good : checked s ≡ Ok (record { policy = policy; count = n })
  is_good = sym found ∙ good

  pub run_asks : {start : Token} → start ≡ blank_token → {records : List ℕ} → length records ≡ 12288 → RunAsks start policy s n records
  run_asks {start} e {records} long =
      let facts = (checked_good s policy n).0 is_good in
      let most = good_most s is_good in
      let fresh_one : Reached blank_token policy =
      subst (Reached blank_token) (policy_written policy most.0) (reached_fresh (read_policy policy)) in
      record {
        reached = subst (λ (t : Token). Reached t policy) (sym e) fresh_one;
        low = most.0;
        good = facts.no_fault;
        counted = sym facts.its_count;
        room = omega (arith, long, most.1);
      }

  pub run_leaves : {start : Token} → start ≡ blank_token → Bytes s → {before after : List ℕ} {token : Token}
      → Ran start policy s n before after token
      → RanSheet s before after (record { checked = Ok (record { policy = policy; count = n }); token = token })
  run_leaves {start} e bytes {before} {after} {token} ran =
      let facts = (checked_good s policy n).0 is_good in
      let most = good_most s is_good in
      let p = read_policy (byte_at s 0) in
      let begins : ComesFrom blank_token policy p fresh =
      subst (λ (k : ℕ). ComesFrom blank_token k p fresh)
      (ap (λ (k : ℕ). policy_number (read_policy k)) facts.its_policy ∙ policy_written policy most.0)
      (comes_fresh p) in
      let by = ran p fresh (subst (λ (t : Token). ComesFrom t policy p fresh) (sym e) begins) in
      record {
        is_checked = sym is_good;
        leaves =
            subst (λ (f : Option ℕ). RunOrNot f s before after (record { checked = Ok (record { policy = policy; count = n }); token = token })) (sym facts.no_fault)
            (record {
              policy = p;
              commands = read_commands s (count s);
              said = by.said;
              end = by.end;
              sheet = good_sheet s bytes facts.no_fault;
              run = rw facts.its_count by.run;
              shows_end = by.shows_end;
              written = by.written;
            });
      }

-- a malformed sheet leaves everything as it was
pub not_run : (s : List ℕ) {c : Either Header Malformed} {place : ℕ} → c ≡ checked s → c ≡ Err (record { place = place }) → {start : Token} → start ≡ blank_token
    → {before : List ℕ}
    → RanSheet s before before (record { checked = c; token = start })
not_run s {c} {place} found bad {start} e {before} =
    record {
      is_checked = found;
      leaves =
          subst (λ (f : Option ℕ). RunOrNot f s before before (record { checked = c; token = start }))
          (sym ((checked_malformed s place).0 (sym found ∙ bad)))
          (record { unwritten = refl; unused = e });
    }

-- two results of running one sheet over one buffer are equal, and so is what the buffer holds
same_result : (a b : Result) → a.checked ≡ b.checked → a.token ≡ b.token → a ≡ b
same_result a b c t = λ i. record { checked = c i; token = t i }

leaves_unique : (s before x y : List ℕ) (a b : Result) (fault : Option ℕ) → RunOrNot fault s before x a → RunOrNot fault s before y b
    → (a.token ≡ b.token) × (x ≡ y)
leaves_unique s before x y a b none p q =
    let read = one_reading p.sheet q.sheet in
    let second = rw (← read.0, ← read.1) at q.run in
    let same = run_unique p.run second in (
      shows_unique p.shows_end (rw (← same.1) at q.shows_end),
      p.written ∙ ap (λ l. over (records_bytes l) before) same.0 ∙ sym q.written,
    )
leaves_unique s before x y a b (some place) p q = (p.unused ∙ sym q.unused, p.unwritten ∙ sym q.unwritten)

pub ran_unique : {s before x y : List ℕ} {a b : Result} → RanSheet s before x a → RanSheet s before y b → (a ≡ b) × (x ≡ y)
ran_unique {s} {before} {x} {y} {a} {b} p q =
    let left = leaves_unique s before x y a b (first_fault s) p.leaves q.leaves in
    (same_result a b (p.is_checked ∙ sym q.is_checked) left.0, left.1)
