-- The report in a buffer, part behind part: the counts, the records, the known keys. Rests on the writer's Over.
use Prim.Native.Nat.{ℕ, suc, ◌+◌, ◌*◌, ◌-◌, ◌/◌, ◌%◌, ◌≤◌, ◌<◌}
use native.Mathlib.Omega.{arith}
use mathlib.Core.Path.{◌≡◌, refl, sym, ap, ◌∙◌}
use mathlib.Core.Bool.{Bool, true, false, cond, ◌&&◌}
use mathlib.Core.List.{List, [], ◌∷◌, ◌++◌, append_assoc}
use lib.Dec.{leb}
use lib.ListN.{length, take, drop, length-append}
use lib.Seq.{length-take-le, take_at, drop_at, drop-drop}
use borrow.Rule.Slice.PartMut.{put_mid}
use borrow.Author.Tests.{le-leb, lt-leb}
use Rattle.sheets.specs.Bytes.{two}
use Rattle.sheets.specs.Reports.{keys_bytes}
use Rattle.sheets.specs.Calls.{over}
use Rattle.sheets.specs.Reports.{records_bytes, report_bytes}
use Rattle.sheets.proofs.Reports.{report_length}
use Rattle.shapes.specs.declared.Entry.{Entry}
use Rattle.shapes.specs.Entries.{is_key_kind, is_held}
use Rattle.sheets.proofs.Calls.{over_length}
use Rattle.writer.proofs.Over.{lent_length, over_lent}
use Rattle.token.specs.declared.Token.{Token}
use Rattle.token.specs.declared.Short.{Short}
use Rattle.token.specs.Known.{marked_keys, ListedInto, written_as}
use Rattle.std.specs.Prelude.{Result, Ok, Err}
use Rattle.vachodien.specs.Replied.{left_report, ReportedInto}

-- two bytes a key
keys_long : (known : List ℕ) → length (keys_bytes known) ≡ 2 * length known
unfolding report_bytes records_bytes two
keys_long known = omega (arith, report_length [] known)

-- no more keys are marked than there are entries
marked_next : (e : Entry) (entries : List Entry) (b : Bool) (k : ℕ) → length (marked_keys entries) ≤ length entries
    → length (cond b (k ∷ marked_keys entries) (marked_keys entries)) ≤ suc (length entries)
marked_next e entries true k h = omega (arith, h)
marked_next e entries false k h = omega (arith, h)

pub marked_few : (entries : List Entry) → length (marked_keys entries) ≤ length entries
unfolding marked_keys
marked_few [] = omega arith
marked_few (e ∷ entries) = marked_next e entries (is_key_kind e.term && is_held e) _ (marked_few entries)

-- a number's bytes, as std says them
two_bytes : (n : ℕ) → n < 65536 → n / 256 % 256 ∷ n % 256 ∷ [] ≡ two n
unfolding two
two_bytes n h = let high : n / 256 % 256 ≡ n / 256 = omega arith in rw high refl

-- w stands over the front of a buffer, and e was copied in behind w: now w and e stand there
over_copied : (w e before out : List ℕ) (at : ℕ) → length w ≡ at → out ≡ over w before
    → put_mid at (length e) out e ≡ over (w ++ e) before
unfolding over
over_copied w e before out at long written =
    let front : take at out ≡ w = ap (take at) written ∙ take_at w _ at long in
    let rest : drop at out ≡ drop at before =
    ap (drop at) written ∙ drop_at w _ at long ∙ ap (λ (k : ℕ). drop k before) long in
    let both : at + length e ≡ length (w ++ e) = omega (arith, length-append w e) in
    rw (front, rest, drop-drop, both) (sym (append_assoc w e (drop (length (w ++ e)) before)))

-- two numbers at the front
pub over_counts : (n m : ℕ) (out first second : List ℕ) → n < 65536 → m < 65536 → first ≡ n / 256 % 256 ∷ n % 256 ∷ []
    → second ≡ m / 256 % 256 ∷ m % 256 ∷ []
    → put_mid 2 2 (first ++ drop 2 out) second ≡ over (two n ++ two m) out
unfolding over two
over_counts n m out first second n_small m_small e e' =
    let first_is : first ≡ two n = e ∙ two_bytes n n_small in
    let second_is : second ≡ two m = e' ∙ two_bytes m m_small in
    rw (first_is, second_is) (over_copied (two n) (two m) out (over (two n) out) 2 refl refl)

module _ (n : ℕ) (records : List ℕ) (t : Token) (room : 3 * n ≤ length records) where
  counts_long : length (two n ++ two (length (marked_keys t.table.entries))) ≡ 4
  unfolding two
  counts_long = refl

  records_long : length (take (3 * n) records) ≡ 3 * n
  records_long = length-take-le (3 * n) records room

  abbrev known : List ℕ
  known = marked_keys t.table.entries

  abbrev front : List ℕ
  front = two n ++ two (length known) ++ take (3 * n) records

  front_long : length front ≡ 4 + 3 * n
  front_long = omega (arith, length-append (two n ++ two (length known)) (take (3 * n) records), counts_long, records_long)

  pub left_length : length (left_report n records t) ≡ 4 + 3 * n + 2 * length (marked_keys t.table.entries)
  unfolding left_report
  left_length = length-append front (keys_bytes known) ∙ omega (arith, front_long, keys_long known)

  -- where the buffer is too short
  pub report_short : (before : List ℕ) (m : ℕ) → m ≡ length (marked_keys t.table.entries) → length before < 4 + 3 * n + 2 * m
      → ReportedInto n records t before before (Err (record {}))
  report_short before m e h =
      let long : length before < length (left_report n records t) = omega (arith, left_length, e) in
      let no_room : leb (length (left_report n records t)) (length before) ≡ false =
      lt-leb (length (left_report n records t)) (length before) long in
      record { answered = rw no_room; written = rw no_room }

  -- where it has room: the counts are written, the records behind them, the keys behind these
  pub report_whole : (before : List ℕ) (m : ℕ) → m ≡ length (marked_keys t.table.entries) → 4 + 3 * n + 2 * m ≤ length before
      → (first : List ℕ)
      → first ≡ over (two n ++ two m) before
      → (back : List ℕ)
      → back ≡ take (4 + 3 * n - 4) records
      → (second : List ℕ)
      → second ≡ put_mid 4 (4 + 3 * n - 4) first back
      → (list : List ℕ) (listed : Result ℕ Short)
      → ListedInto (marked_keys t.table.entries) (take (length second - (4 + 3 * n)) (drop (4 + 3 * n) second)) list listed
      → ReportedInto n records t before (take (4 + 3 * n) second ++ (list ++ drop (length second - (4 + 3 * n)) (drop (4 + 3 * n) second)))
      (Ok (4 + 3 * n + 2 * m))
  unfolding left_report
  report_whole before m e h first e1 back e2 second e3 list listed e4 =
      let counts : first ≡ over (two n ++ two (length known)) before = e1 ∙ ap (λ (k : ℕ). over (two n ++ two k) before) e in
      let three : 4 + 3 * n - 4 ≡ 3 * n = omega arith in
      let back_is : back ≡ take (3 * n) records = rw three at e2 in
      let k_is : 4 + 3 * n - 4 ≡ length back = omega (arith, ap length back_is, records_long) in
      let after_records : second ≡ over front before =
      e3 ∙ ap (λ (k : ℕ). put_mid 4 k first back) k_is ∙ ap (λ (e : List ℕ). put_mid 4 (length e) first e) back_is ∙ over_copied (two n ++ two (length known)) (take (3 * n) records) before first 4 counts_long counts in
      let same_long : length second ≡ length before =
      ap length after_records ∙ over_length front before (omega (arith, front_long, h)) in
      let lent = take (length second - (4 + 3 * n)) (drop (4 + 3 * n) second) in
      let room_left : 2 * length known ≤ length lent = omega (arith, lent_length second (4 + 3 * n), same_long, h, e) in
      let fits : leb (2 * length known) (length lent) ≡ true = le-leb (2 * length known) (length lent) room_left in
      let list_is : list ≡ over (keys_bytes known) lent = e4.written ∙ ap (λ (b : Bool). written_as b known lent) fits in
      let whole = over_lent front (keys_bytes known) before (4 + 3 * n) second list front_long after_records list_is in
      let long : length (left_report n records t) ≤ length before = omega (arith, left_length, e, h) in
      let has_room : leb (length (left_report n records t)) (length before) ≡ true =
      le-leb (length (left_report n records t)) (length before) long in
      let how_long : 4 + 3 * n + 2 * m ≡ length (left_report n records t) = omega (arith, left_length, e) in
      record { answered = rw has_room (ap Ok how_long); written = rw has_room whole }
