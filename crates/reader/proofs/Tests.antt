-- The tests of a header, of an entry and of a body, by the questions that the code asks in turn. Rests on the definitions.
use Prim.Native.Nat.{ℕ, suc, ◌+◌, ◌-◌, ◌≤◌, ◌<◌}
use native.Mathlib.Omega.{arith}
use mathlib.Core.Path.{◌≡◌, sym}
use mathlib.Core.Bool.{true, false, or-true, and-false}
use mathlib.Core.List.{List, []}
use lib.ListN.{length, take, drop}
use borrow.Author.Tests.{leb-true, lt-ltb, le-leb, lt-leb}
use Rattle.std.specs.Prelude.{Option, None}
use Rattle.rules.proofs.Named.{both}
use Rattle.sheets.specs.Bytes.{byte_at}
use Rattle.sheets.specs.Sheets.{bodies_begin}
use Rattle.sheets.specs.Faults.{body_length, count, entry_number, entry_offset, header_fault}
use Rattle.shapes.specs.Commands.{parsed}
use Rattle.shapes.specs.declared.Command.{Command}
use Rattle.reader.specs.Reader.{has_entry, has_body, body_at, read_as, entry_at}

-- the header: under 3 bytes; policy above 2, n above 4,096 or a table not wholly inside; none of these
module _ (s : List ℕ) where
  pub header_short : length s < 3 → header_fault s ≡ true
  unfolding header_fault
  header_short h = rw (lt-ltb (length s) 3 h)

  pub policy_above : 2 < byte_at s 0 → header_fault s ≡ true
  unfolding header_fault
  policy_above h = rw (lt-ltb 2 (byte_at s 0) h, or-true)

  pub count_above : 4096 < count s → header_fault s ≡ true
  unfolding header_fault
  count_above h = rw (lt-ltb 4096 (count s) h, or-true)

  pub table_outside : length s < bodies_begin (count s) → header_fault s ≡ true
  unfolding header_fault
  table_outside h = rw (lt-ltb (length s) (bodies_begin (count s)) h, or-true)

-- where the entry behind entry i begins
pub begin_next : (i : ℕ) → bodies_begin (suc i) ≡ bodies_begin i + 3
unfolding bodies_begin
begin_next i = omega arith

-- the body of entry i: the entry is not inside; or its body is not
module _ (s : List ℕ) (i : ℕ) where
  pub entry_outside : length s < bodies_begin (suc i) → has_body s i ≡ false
  unfolding has_body has_entry
  entry_outside h = rw (lt-leb (bodies_begin (suc i)) (length s) h)

  pub body_outside : length s < entry_offset s i + body_length (entry_number s i) → has_body s i ≡ false
  unfolding has_body
  body_outside h = rw (lt-leb (entry_offset s i + body_length (entry_number s i)) (length s) h, and-false)

  -- a body that is there lies inside, as its entry does
  pub record Inside : Type 0 where
    pub entry_inside : bodies_begin (suc i) ≤ length s
    pub body_inside : entry_offset s i + body_length (entry_number s i) ≤ length s

  pub inside : has_body s i ≡ true → Inside
  unfolding has_body has_entry
  inside e =
      let (entry, body) = both _ _ e in
      record { entry_inside = leb-true _ _ entry; body_inside = leb-true _ _ body }

  -- .. and where both lie inside it is there
  pub is_inside : Inside → has_body s i ≡ true
  unfolding has_body has_entry
  is_inside in' =
      rw (
        le-leb (bodies_begin (suc i)) (length s) in'.entry_inside,
        le-leb (entry_offset s i + body_length (entry_number s i)) (length s) in'.body_inside,
      )

  -- what is read where the body is there, and where it is not
  pub no_body : has_body s i ≡ false → body_at s i ≡ []
  unfolding body_at
  no_body e = rw e

  pub the_body : has_body s i ≡ true → body_at s i ≡ take (body_length (entry_number s i)) (drop (entry_offset s i) s)
  unfolding body_at
  the_body e = rw e

  -- the part of the sheet that a body is, from its offset to its end
  pub part_is : (from end : ℕ) → has_body s i ≡ true → from ≡ entry_offset s i → end ≡ from + body_length (entry_number s i)
      → take (end - from) (drop from s) ≡ body_at s i
  part_is from end there offset ends =
      let so_many : end - from ≡ body_length (entry_number s i) = omega arith in rw (so_many, offset) (sym (the_body there))

  pub no_entry : has_body s i ≡ false → entry_at s i ≡ None
  unfolding entry_at
  no_entry e = rw e

  pub the_entry : (number : ℕ) (body : List ℕ) (read : Option Command) → has_body s i ≡ true → number ≡ entry_number s i
      → body ≡ body_at s i → read ≡ parsed number body → read_as number read ≡ entry_at s i
  unfolding entry_at
  the_entry number body read e n b r = rw e (cc)
