-- Looking through what is handed over, command by command: either no sheet can hold the next one, which is then named, or its
-- body's length is added. Rests on Handed.
use Prim.Native.Nat.{ℕ, suc, ◌+◌, ◌*◌, ◌≤◌, ◌<◌}
use native.Mathlib.Numerals.{add-one}
use native.Mathlib.Omega.{arith}
use mathlib.Core.Path.{◌≡◌, sym, ap, ◌∙◌}
use mathlib.Core.Bool.{true, false, or-true}
use mathlib.Core.List.{List}
use mathlib.Core.Option.{some}
use lib.Dec.{ltb}
use lib.ListN.{length}
use borrow.Author.Count.{below_none, below_more}
use borrow.Author.Tests.{lt-ltb, le-ltb}
use Rattle.sheets.specs.Bytes.{Bytes}
use Rattle.sheets.specs.Sheets.{most_commands, bodies, bodies_begin}
use Rattle.sheets.proofs.Places.{NoneBelow, smallest_some, smallest_none}
use Rattle.std.specs.Prelude.{Ok, Err}
use Rattle.shapes.specs.declared.CallError.TheVariants.{Malformed}
use Rattle.writer.specs.Writer.{handed_body, handed_commands, unholdable, first_unholdable, asked_sheet}
use Rattle.writer.specs.Parts.{found_as, Held}
use Rattle.writer.proofs.Handed.{passes, bodies_next_length, bodies_few, asked_length}

-- what is answered for each
module _ (policy n : ℕ) (handed : List ℕ) (long : ℕ) where
  named : (place : ℕ) → first_unholdable policy n handed ≡ some place
      → Err (Malformed place) ≡ found_as (first_unholdable policy n handed) long
  unfolding found_as
  named place e = rw e

  fault_0 : unholdable policy n handed 0 ≡ true → Err (Malformed 0) ≡ found_as (first_unholdable policy n handed) long
  unfolding first_unholdable
  fault_0 e =
      named 0
      ((smallest_some (unholdable policy n handed) (suc n) 0).1
      (record { in_range = omega arith; passes = e; none_before = below_none (λ j. unholdable policy n handed j ≡ false) }))

  pub policy_above : 2 < policy → Err (Malformed 0) ≡ found_as (first_unholdable policy n handed) long
  unfolding unholdable
  policy_above h = fault_0 (rw (lt-ltb _ _ h))

  pub too_many : most_commands < n → Err (Malformed 0) ≡ found_as (first_unholdable policy n handed) long
  unfolding unholdable
  too_many h = fault_0 (rw (lt-ltb _ _ h) (or-true (ltb 2 policy)))

-- the first i commands can be held, and `long` is the length of their sheet, but for the table of n entries
pub record Looking (policy n : ℕ) (handed : List ℕ) (i long : ℕ) : Type 0 where
  pub in_range : i ≤ n
  pub few : n ≤ most_commands
  pub none_yet : NoneBelow (unholdable policy n handed) (suc i)
  pub so_long : long ≡ bodies_begin n + length (bodies (handed_commands handed i))

pub looking_none : (policy n : ℕ) (handed : List ℕ) → policy ≤ 2 → n ≤ most_commands
    → Looking policy n handed 0 (3 + 3 * n)
unfolding unholdable bodies_begin handed_commands bodies
looking_none policy n handed low few =
    let header : unholdable policy n handed 0 ≡ false = rw (le-ltb _ _ low, le-ltb _ _ few) in
    record {
      in_range = omega arith;
      few = few;
      none_yet = λ (j : ℕ) (h : j < 1). let e : j ≡ 0 = omega arith in ap (unholdable policy n handed) e ∙ header;
      so_long = omega arith;
    }

module _ (policy n : ℕ) (handed : List ℕ) (i long : ℕ) (so_far : Looking policy n handed i long) where
  -- the next command is one that no sheet can hold
  pub looking_fault : i < n → unholdable policy n handed (suc i) ≡ true → (whole : ℕ)
      → Err (Malformed (i + 1)) ≡ found_as (first_unholdable policy n handed) whole
  unfolding first_unholdable
  looking_fault h e whole =
      rw add-one
      (named policy n handed whole (suc i)
      ((smallest_some (unholdable policy n handed) (suc n) (suc i)).1
      (record { in_range = omega arith; passes = e; none_before = so_far.none_yet })))

  -- the next command can be held
  pub looking_next : Bytes handed → i < n → Held handed i → (body : List ℕ) → body ≡ handed_body handed i
      → Looking policy n handed (i + 1) (long + length body)
  looking_next bytes h held body same =
      record {
        in_range = omega arith;
        few = so_far.few;
        none_yet =
            λ (j : ℕ) (l : j < suc (i + 1)).
            below_more (λ k. unholdable policy n handed k ≡ false) (suc i) so_far.none_yet (passes handed i policy n held) j (omega arith);
        so_long = rw add-one (omega (arith, so_far.so_long, ap length same, bodies_next_length handed bytes i held));
      }

  -- the length stays small
  pub looking_small : long ≤ 28675
  unfolding bodies_begin
  looking_small = omega (arith, so_far.so_long, so_far.few, so_far.in_range, bodies_few handed i)

  -- every command can be held
  pub looking_all : n ≤ i → Ok long ≡ found_as (first_unholdable policy n handed) (length (asked_sheet policy n handed))
  unfolding first_unholdable found_as
  looking_all h =
      let e : i ≡ n = omega (arith, so_far.in_range) in
      let all = (smallest_none (unholdable policy n handed) (suc n)).1 (rw e at so_far.none_yet) in
      rw all (ap Ok ((rw e at so_far.so_long) ∙ sym (asked_length policy n handed)))
