-- The walk over the entries of a sheet, as `check` makes it: how it begins, goes on, and ends in each answer.
-- Rests on Tests, and on the laws of places and faults of the crate `sheets`.
use Prim.Native.Nat.{ℕ, zero, suc, ◌+◌, ◌≤◌, ◌<◌}
use native.Mathlib.Nat.{le_of_suc-le-suc}
use native.Mathlib.Numerals.{add-one}
use native.Mathlib.Omega.{arith}
use mathlib.Core.Path.{◌≡◌, sym, ap, ◌∙◌}
use mathlib.Core.Bool.{true, false}
use mathlib.Core.List.{List}
use mathlib.Core.Option.{none}
use lib.ListN.{length}
use borrow.Author.Count.{below_none, below_more}
use borrow.Author.Tests.{lt-ltb}
use Rattle.std.specs.Prelude.{Ok, Err}
use Rattle.sheets.specs.Sheets.{bodies_begin}
use Rattle.sheets.specs.Faults.{body_length, count, bodies_end, header_fault, entry_fault}
use Rattle.sheets.specs.Faults.{bytes_follow, fault_at, first_fault}
use Rattle.sheets.proofs.Places.{FirstFault, first_fault_some}
use Rattle.sheets.proofs.Faultless.{HeaderFaultless, EntryFaultless, header_exactly, entry_exactly, fault_at_entry, fault_at_end}
use Rattle.sheets.proofs.Faultless.{none_faultless}
use Rattle.reader.specs.declared.Header.{Header}
use Rattle.reader.specs.declared.table.Row.{Row}
use Rattle.reader.specs.Reader.{checked_as, checked}
use Rattle.reader.specs.Parts.{header_of, row_of, faulty}

-- with i entries behind there was no fault, and the bodies so far end at `end`
pub record Walked (s : List ℕ) (i end : ℕ) : Type 0 where
  pub header : HeaderFaultless s
  pub in_range : i ≤ count s
  pub at_end : end ≡ bodies_end s i
  pub inside : end ≤ length s
  pub entries : (j : ℕ) → j < i → EntryFaultless s j

-- the answer at the first fault
named : (s : List ℕ) (place : ℕ) → FirstFault s place → Err (record { place = place }) ≡ checked s
unfolding checked checked_as
named s place f = rw ((first_fault_some s place).1 f)

-- a fault of the header is at place 0
pub header_named : (s : List ℕ) → header_fault s ≡ true → Err (record { place = 0 }) ≡ checked s
unfolding fault_at
header_named s e =
    named s 0 (record { in_range = omega arith; is_fault = e; none_before = below_none (λ j. fault_at s j ≡ false) })

-- no fault at the places behind
none_behind : (s : List ℕ) (i end : ℕ) → Walked s i end → (j : ℕ) → j < suc i → fault_at s j ≡ false
unfolding fault_at
none_behind s i end w zero h = (header_exactly s).1 w.header
none_behind s i end w (suc j) h =
    fault_at_entry s j (omega (arith, w.in_range)) ∙ (entry_exactly s j).1 (w.entries j (le_of_suc-le-suc h))

-- a fault at the next place is the first
next_named : (s : List ℕ) (i end : ℕ) → Walked s i end → fault_at s (suc i) ≡ true → Err (record { place = i + 1 }) ≡ checked s
next_named s i end w e =
    rw (add-one i)
    (named s (suc i) (record { in_range = omega (arith, w.in_range); is_fault = e; none_before = none_behind s i end w }))

module _ (s : List ℕ) (header : Header) (is_header : header ≡ header_of s) where
  counted : header.count ≡ count s
  counted = ap (λ (h : Header). h.count) is_header

  -- the walk begins
  pub begins : (end : ℕ) → end ≡ bodies_begin header.count → header_fault s ≡ false → Walked s 0 end
  unfolding bodies_end
  begins end at e =
      let faultless = (header_exactly s).0 e in
      let here : end ≡ bodies_end s 0 = at ∙ ap bodies_begin counted in
      record {
        header = faultless;
        in_range = omega arith;
        at_end = here;
        inside = omega (arith, here, faultless.table_inside);
        entries = below_none (EntryFaultless s);
      }

  module _ (i end : ℕ) (w : Walked s i end) (h : i < header.count) where
    ahead : i < count s
    ahead = omega (arith, counted)

    -- the next entry lies in the table
    pub entry_inside : bodies_begin (suc i) ≤ length s
    unfolding bodies_begin
    entry_inside = omega (arith, ahead, w.header.table_inside)

    -- .. and its row is tested
    module _ (row : Row) (read : row ≡ row_of s i) where
      tested : faulty row end (length s) ≡ entry_fault s i
      unfolding entry_fault bodies_end
      tested = rw (read, w.at_end)

      -- an entry with a fault is named
      pub entry_named : faulty row end (length s) ≡ true → Err (record { place = i + 1 }) ≡ checked s
      entry_named e = next_named s i end w (fault_at_entry s i ahead ∙ sym tested ∙ e)

      -- one without is passed
      pub goes_on : faulty row end (length s) ≡ false → (next : ℕ) → next ≡ row.offset + body_length row.number
          → Walked s (i + 1) next
      unfolding bodies_end
      goes_on e next ends =
          let good = (entry_exactly s i).0 (sym tested ∙ e) in
          let here = ap (λ (r : Row). r.offset + body_length r.number) read in
          let moved : next ≡ bodies_end s (suc i) = omega (arith, ends, here, good.in_place) in
          record {
            header = w.header;
            in_range = omega (arith, ahead);
            at_end = rw add-one moved;
            inside = omega (arith, moved, good.inside);
            entries = below_more (EntryFaultless s) i w.entries good;
          }

  module _ (i end : ℕ) (w : Walked s i end) (h : header.count ≤ i) where
    all_behind : i ≡ count s
    all_behind = omega (arith, w.in_range, counted)

    at_last : end ≡ bodies_end s (count s)
    at_last = w.at_end ∙ ap (bodies_end s) all_behind

    -- bytes that follow the last body are named
    pub end_named : end < length s → Err (record { place = header.count + 1 }) ≡ checked s
    unfolding bytes_follow
    end_named l =
        let e : bytes_follow s ≡ true = lt-ltb (bodies_end s (count s)) (length s) (omega (arith, at_last)) in
        let same : header.count ≡ i = omega (arith, counted, all_behind) in
        rw same (next_named s i end w (fault_at_end s i (omega (arith, all_behind)) ∙ e))

    -- .. and where none do the sheet is good
    pub end_good : length s ≤ end → Ok header ≡ checked s
    unfolding checked checked_as
    end_good l =
        let none_at_all : first_fault s ≡ none = (none_faultless s).1 (record {
          header = w.header;
          entries = λ j b. w.entries j (omega (arith, all_behind));
          nothing_follows = omega (arith, at_last);
        }) in
        rw (none_at_all, is_header)
