-- What the writer promises leaves no room: what each answer says, exactly, and which bytes of the buffer it leaves; any two
-- results that meet the contract are equal. Rests on specs/Writer.antt.
use Prim.Native.Nat.{ℕ, suc, ◌≤◌, ◌<◌}
use mathlib.Core.Path.{◌≡◌, refl, sym, ap, subst, ◌∙◌}
use mathlib.Core.Bool.{Bool, true, false}
use mathlib.Core.List.{List}
use mathlib.Core.Logic.{◌↔◌}
use mathlib.Core.Option.{Option, none, some}
use lib.Dec.{leb}
use lib.ListN.{length, take, drop}
use borrow.Author.Tests.{leb-true, leb-false, le-leb, lt-leb}
use Rattle.sheets.specs.Calls.{answer_number, over}
use Rattle.sheets.proofs.Calls.{over_length, over_front, over_behind}
use Rattle.sheets.proofs.Places.{Smallest, smallest_some}
use Rattle.std.specs.Prelude.{Result as Outcome, Ok, Err}
use Rattle.shapes.specs.declared.CallError.{CallError}
use Rattle.shapes.specs.declared.CallError.TheVariants.{Malformed, Short}
use Rattle.writer.specs.Writer.{unholdable, first_unholdable, asked_sheet, Wrote, sheet_into, wrote_as, wrote}
use Rattle.writer.specs.Writer.{written_number}

-- what the contract says of an answer and of the buffer afterwards
abbrev pub Result : (policy n : ℕ) (handed buffer : List ℕ) → Outcome ℕ CallError → List ℕ → Type 0
Result policy n handed buffer r after = wrote policy n handed buffer ≡ record { answer = r; buffer = after }

-- two results that meet the contract are equal
pub one_result : (policy n : ℕ) (handed buffer : List ℕ) {r r' : Outcome ℕ CallError} {after after' : List ℕ}
    → Result policy n handed buffer r after → Result policy n handed buffer r' after' → (r ≡ r') × (after ≡ after')
one_result policy n handed buffer e e' =
    (ap (λ (w : Wrote). w.answer) (sym e ∙ e'), ap (λ (w : Wrote). w.buffer) (sym e ∙ e'))

-- what each answer says: 12 at its place, and nothing is written; 13, and nothing is written; 0, the sheet's length, and the sheet
-- stands over the front of the buffer
abbrev pub Says : (fault : Option ℕ) (sheet buffer : List ℕ) → Outcome ℕ CallError → List ℕ → Type 0
Says fault sheet buffer (Err (Malformed place)) after = (fault ≡ some place) × (after ≡ buffer)
Says fault sheet buffer (Err Short) after = (fault ≡ none) × (length buffer < length sheet) × (after ≡ buffer)
Says fault sheet buffer (Ok long) after =
    (fault ≡ none) × (length sheet ≤ length buffer) × (long ≡ length sheet) × (after ≡ over sheet buffer)

into_says : (sheet buffer : List ℕ) (fits : Bool) → leb (length sheet) (length buffer) ≡ fits
    → Says none sheet buffer (sheet_into fits sheet buffer).answer (sheet_into fits sheet buffer).buffer
unfolding sheet_into
into_says sheet buffer true e = (refl, leb-true _ _ e, refl, refl)
into_says sheet buffer false e = (refl, leb-false _ _ e, refl)

as_says : (fault : Option ℕ) (sheet buffer : List ℕ)
    → Says fault sheet buffer (wrote_as fault sheet buffer).answer (wrote_as fault sheet buffer).buffer
unfolding wrote_as
as_says none sheet buffer = into_says sheet buffer _ refl
as_says (some place) sheet buffer = (refl, refl)

says_as : (fault : Option ℕ) (sheet buffer : List ℕ) (r : Outcome ℕ CallError) (after : List ℕ) → Says fault sheet buffer r after
    → wrote_as fault sheet buffer ≡ record { answer = r; buffer = after }
unfolding wrote_as sheet_into
says_as fault sheet buffer (Err (Malformed place)) after (f, w) = rw (f, w)
says_as fault sheet buffer (Err Short) after (f, l, w) = rw (f, w, lt-leb _ _ l)
says_as fault sheet buffer (Ok long) after (f, l, s, w) = rw (f, s, w, le-leb _ _ l)

-- .. exactly
module _ (policy n : ℕ) (handed buffer : List ℕ) where
  pub exactly : (r : Outcome ℕ CallError) (after : List ℕ)
      → Result policy n handed buffer r after
      ↔ Says (first_unholdable policy n handed) (asked_sheet policy n handed) buffer r after
  unfolding wrote
  exactly r after = (there, says_as (first_unholdable policy n handed) (asked_sheet policy n handed) buffer r after)
    where
      there : Result policy n handed buffer r after
          → Says (first_unholdable policy n handed) (asked_sheet policy n handed) buffer r after
      there e =
          subst
          (λ (w : Wrote). Says (first_unholdable policy n handed) (asked_sheet policy n handed) buffer w.answer w.buffer)
          e (as_says (first_unholdable policy n handed) (asked_sheet policy n handed) buffer)

  -- a refusal leaves the buffer as it was
  pub malformed_writes_nothing : {place : ℕ} {after : List ℕ} → Result policy n handed buffer (Err (Malformed place)) after
      → after ≡ buffer
  malformed_writes_nothing {place} {after} e = ((exactly (Err (Malformed place)) after).0 e).1

  pub short_writes_nothing : {after : List ℕ} → Result policy n handed buffer (Err Short) after → after ≡ buffer
  short_writes_nothing {after} e = ((exactly (Err Short) after).0 e).2

  -- the place that is named is the smallest at which there is something that no sheet can hold
  pub place_smallest : {place : ℕ} {after : List ℕ} → Result policy n handed buffer (Err (Malformed place)) after
      → Smallest (unholdable policy n handed) (suc n) place
  unfolding first_unholdable
  place_smallest {place} {after} e =
      (smallest_some (unholdable policy n handed) (suc n) place).0 ((exactly (Err (Malformed place)) after).0 e).0

  -- the sheet's length is answered, it stands at the front, and the bytes behind it stay
  module _ {long : ℕ} {after : List ℕ} (e : Result policy n handed buffer (Ok long) after) where
    pub length_told : long ≡ length (asked_sheet policy n handed)
    length_told = ((exactly (Ok long) after).0 e).2

    pub sheet_at_front : take long after ≡ asked_sheet policy n handed
    sheet_at_front = rw (length_told, ((exactly (Ok long) after).0 e).3) (over_front (asked_sheet policy n handed) buffer)

    pub behind_stays : drop long after ≡ drop long buffer
    behind_stays = rw (length_told, ((exactly (Ok long) after).0 e).3) (over_behind (asked_sheet policy n handed) buffer)

  -- the buffer's length never changes
  pub same_length : (r : Outcome ℕ CallError) (after : List ℕ) → Result policy n handed buffer r after
      → length after ≡ length buffer
  same_length (Err (Malformed place)) after e = ap length (malformed_writes_nothing e)
  same_length (Err Short) after e = ap length (short_writes_nothing e)
  same_length (Ok long) after e =
      let (f, l, s, w) = (exactly (Ok long) after).0 e in
      ap length w ∙ over_length (asked_sheet policy n handed) buffer l

-- this paper's numbers: 12 with the place, 13 with nothing, 0 with the length
pub numbers : (place long : ℕ)
    → (written_number (Err (Malformed place)) ≡ answer_number 12 place) × (written_number (Err Short) ≡ answer_number 13 0)
    × (written_number (Ok long) ≡ answer_number 0 long)
unfolding written_number
numbers place long = (refl, refl, refl)
