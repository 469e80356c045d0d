-- A good sheet has at most 28,675 bytes. So of any string the first bytes tell the whole, where they are more than that: the first
-- fault of both is at the same place, they are the sheet of the same commands, and the reply is the same. Rests on Good and Sizes.
use Prim.Native.Nat.{ℕ, zero, suc, ◌+◌, ◌*◌, ◌≤◌, ◌<◌}
use native.Mathlib.Omega.{arith}
use mathlib.Core.Path.{◌≡◌, refl, sym, ap, ◌∙◌}
use mathlib.Core.Logic.{◌↔◌}
use mathlib.Core.Bool.{true, false}
use mathlib.Core.List.{List}
use mathlib.Core.Option.{Option, none, some}
use lib.Dec.{ltb, leb}
use lib.ListN.{length, take}
use lib.Seq.{length-take-le, take_all}
use borrow.Author.Tests.{ltb-true, ltb-false, leb-true, leb-false, lt-ltb, le-ltb}
use Rattle.terms.proofs.Lists.{bool_cases}
use Rattle.rules.specs.Templates.{Policy}
use Rattle.rules.specs.Commands.{Command}
use Rattle.sheets.proofs.Bytes.{byte_front, two_front}
use Rattle.sheets.specs.Sheets.{most_commands, header_length, entry_length, bodies_begin, Sheet}
use Rattle.sheets.specs.Faults.{count, entry_number, entry_offset, bodies_end, header_fault, entry_fault}
use Rattle.sheets.specs.Faults.{bytes_follow, fault_at, first_fault}
use Rattle.sheets.specs.Reading.{reply_or, reply}
use Rattle.sheets.proofs.Places.{first_fault_some}
use Rattle.sheets.proofs.Faultless.{header_exactly, none_faultless}
use Rattle.sheets.proofs.Good.{sheet_good}
use Rattle.sheets.proofs.Sizes.{body_most}

-- as many bytes as header, table and bodies of 4,096 commands can have
abbrev pub most_bytes : ℕ
most_bytes = 28675

-- the first i bodies have at most 4i bytes, so all of at most 4,096 end among the first 28,675
ends_most : (s : List ℕ) (i : ℕ) → bodies_end s i ≤ bodies_begin (count s) + 4 * i
unfolding bodies_end
ends_most s zero = omega arith
ends_most s (suc i) = omega (arith, ends_most s i, body_most (entry_number s i))

ends_within : (s : List ℕ) (i : ℕ) → count s ≤ most_commands → i ≤ count s → bodies_end s i ≤ most_bytes
unfolding bodies_begin
ends_within s i few h = omega (arith, ends_most s i)

-- "a good sheet has at most 28,675"
pub good_at_most : (s : List ℕ) → first_fault s ≡ none → length s ≤ most_bytes
good_at_most s e =
    let f = (none_faultless s).0 e in
    omega (arith, f.nothing_follows, ends_within s (count s) f.header.few (omega arith))

-- a count above 4,096 is a fault at place 0
too_many : (s : List ℕ) → most_commands < count s → first_fault s ≡ some 0
unfolding fault_at
too_many s h =
    (first_fault_some s 0).1
    (record {
      in_range = omega arith;
      is_fault =
          bool_cases (header_fault s) (λ e. e) (λ (e : header_fault s ≡ false). absurd (omega (arith, ((header_exactly s).0 e).few)));
      none_before = λ j l. absurd (omega arith);
    })

-- the first m bytes, m being more than a good sheet has
module _ (m : ℕ) (more : most_bytes < m) (s : List ℕ) where
  -- what stands there is read as in the whole string
  count_taken : count (take m s) ≡ count s
  unfolding count
  count_taken = two_front s m 1 (omega arith)

  number_taken : (i : ℕ) → i < most_commands → entry_number (take m s) i ≡ entry_number s i
  unfolding entry_number
  number_taken i h = byte_front s m (header_length + entry_length * i) (omega arith)

  offset_taken : (i : ℕ) → i < most_commands → entry_offset (take m s) i ≡ entry_offset s i
  unfolding entry_offset
  offset_taken i h = two_front s m (header_length + entry_length * i + 1) (omega arith)

  end_taken : (i : ℕ) → i ≤ most_commands → bodies_end (take m s) i ≡ bodies_end s i
  unfolding bodies_end
  end_taken zero h = ap bodies_begin count_taken
  end_taken (suc i) h = rw (end_taken i (omega arith), number_taken i h)

  -- where the string goes on behind them, both have the same faults: the tests of the length say the same of both
  module _ (long : m ≤ length s) (few : count s ≤ most_commands) where
    both_longer : (n : ℕ) → n ≤ most_bytes → ltb (length (take m s)) n ≡ ltb (length s) n
    both_longer n h =
        le-ltb (length (take m s)) n (omega (arith, length-take-le m s long)) ∙ sym (le-ltb (length s) n (omega arith))

    header_taken : header_fault (take m s) ≡ header_fault s
    unfolding header_fault bodies_begin
    header_taken =
        rw (
          count_taken,
          byte_front s m 0 (omega arith),
          both_longer header_length (omega arith),
          both_longer (bodies_begin (count s)) (omega arith),
        )

    entry_taken : (i : ℕ) → i < count s → entry_fault (take m s) i ≡ entry_fault s i
    unfolding entry_fault
    entry_taken i h =
        let end = ends_within s (suc i) few h in
        rw (
          number_taken i (omega arith),
          offset_taken i (omega arith),
          end_taken i (omega arith),
          end_taken (suc i) (omega arith),
          both_longer (bodies_end s (suc i)) end,
        )

    follow_taken : bytes_follow (take m s) ≡ bytes_follow s
    unfolding bytes_follow
    follow_taken =
        let end = bodies_end s (count s) in
        let within : end ≤ most_bytes = ends_within s (count s) few (omega arith) in
        rw (count_taken, end_taken (count s) few)
        (lt-ltb end (length (take m s)) (omega (arith, length-take-le m s long)) ∙ sym (lt-ltb end (length s) (omega arith)))

    fault_taken : (place : ℕ) → fault_at (take m s) place ≡ fault_at s place
    unfolding fault_at
    fault_taken zero = header_taken
    fault_taken (suc i) =
        rw (count_taken, follow_taken)
        (bool_cases (ltb i (count s)) (λ (e : ltb i (count s) ≡ true). rw (e, entry_taken i (ltb-true _ _ e)))
        (λ (e : ltb i (count s) ≡ false). rw e))

  -- they have the first fault of the whole string
  pub fault_of_front : first_fault (take m s) ≡ first_fault s
  unfolding first_fault
  fault_of_front =
      bool_cases (leb (length s) m) (λ (e : leb (length s) m ≡ true). ap first_fault (take_all m s (leb-true _ _ e)))
      (λ (e : leb (length s) m ≡ false). longer (leb-false _ _ e))
    where
      longer : m < length s → first_fault (take m s) ≡ first_fault s
      longer l =
          bool_cases (ltb most_commands (count s))
          (λ (e : ltb most_commands (count s) ≡ true).
          let many = ltb-true _ _ e in
          too_many (take m s) (rw count_taken many) ∙ sym (too_many s many))
          (λ (e : ltb most_commands (count s) ≡ false).
          let same : fault_at (take m s) ≡ fault_at s = λ k place. fault_taken (omega arith) (ltb-false _ _ e) place k in
          rw (count_taken, same))

  -- .. and where it has none, they are the whole string
  front_whole : first_fault s ≡ none → take m s ≡ s
  front_whole e = take_all m s (omega (arith, good_at_most s e))

  -- so they are the sheet of the same commands, if of any
  pub sheet_of_front : {p : Policy} {cs : List Command} → Sheet (take m s) p cs ↔ Sheet s p cs
  sheet_of_front {p} {cs} = (
    λ (sheet : Sheet (take m s) p cs). rw (front_whole (sym fault_of_front ∙ sheet_good sheet)) at sheet,
    λ (sheet : Sheet s p cs). rw (front_whole (sheet_good sheet)) sheet,
  )

  -- .. and the reply is the same
  pub reply_to_front : reply (take m s) ≡ reply s
  unfolding reply reply_or
  reply_to_front = ap (λ (o : Option ℕ). reply_or o (take m s)) fault_of_front ∙ each (first_fault s) refl
    where
      each : (o : Option ℕ) → first_fault s ≡ o → reply_or o (take m s) ≡ reply_or o s
      each none e = ap (reply_or none) (front_whole e)
      each (some place) e = refl
