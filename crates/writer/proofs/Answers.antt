-- What the writer answers in each case, and what the buffer holds then. Rests on specs/Writer.antt and specs/Parts.antt.
use Prim.Native.Nat.{ℕ, ◌≤◌, ◌<◌}
use native.Mathlib.Omega.{arith}
use mathlib.Core.Path.{◌≡◌, refl, sym}
use mathlib.Core.List.{List}
use mathlib.Core.Option.{Option, none, some}
use lib.ListN.{length}
use borrow.Author.Tests.{le-leb, lt-leb}
use Rattle.sheets.specs.Calls.{over}
use Rattle.std.specs.Prelude.{Result, Ok, Err}
use Rattle.shapes.specs.declared.CallError.{CallError}
use Rattle.shapes.specs.declared.CallError.TheVariants.{Malformed, Short}
use Rattle.writer.specs.Writer.{first_unholdable, asked_sheet, sheet_into, wrote_as, wrote}
use Rattle.writer.specs.Parts.{AllHeld, found_as}
use Rattle.writer.proofs.Handed.{all_held, asked_most}

-- what was found, from what is told of it
refused : (o : Option ℕ) (long : ℕ) (sheet before : List ℕ) (error : CallError) → found_as o long ≡ Err error
    → wrote_as o sheet before ≡ record { answer = Err error; buffer = before }
unfolding found_as wrote_as
refused none long sheet before error e = cc
refused (some i) long sheet before error e = let same : Malformed i ≡ error = cc in rw same

found_long : (o : Option ℕ) (whole long : ℕ) → found_as o whole ≡ Ok long → (o ≡ none) × (long ≡ whole)
unfolding found_as
found_long none whole long e = (refl, cc)
found_long (some i) whole long e = (cc, cc)

module _ (policy n : ℕ) (handed : List ℕ) where
  abbrev told : Result ℕ CallError
  told = found_as (first_unholdable policy n handed) (length (asked_sheet policy n handed))

  -- what no sheet can hold is answered by its place, and nothing is written
  pub answers_fault : {error : CallError} → Err error ≡ told → (before : List ℕ)
      → wrote policy n handed before ≡ record { answer = Err error; buffer = before }
  unfolding wrote
  answers_fault e before = refused _ _ _ before _ (sym e)

  module _ {long : ℕ} (e : Ok long ≡ told) where
    nothing_found : (first_unholdable policy n handed ≡ none) × (long ≡ length (asked_sheet policy n handed))
    nothing_found = found_long _ _ long (sym e)

    -- the policy is low, and every command can be held ..
    pub can_hold : (policy ≤ 2) × AllHeld n handed
    can_hold = all_held policy n handed nothing_found.0

    pub long_told : long ≡ length (asked_sheet policy n handed)
    long_told = nothing_found.1

    pub long_most : long ≤ 28675
    long_most = omega (arith, nothing_found.1, asked_most policy n handed can_hold.1)

    -- a sheet that does not fit is answered 13, and nothing is written
    pub answers_short : (before : List ℕ) → length before < long
        → wrote policy n handed before ≡ record { answer = Err Short; buffer = before }
    unfolding wrote wrote_as sheet_into
    answers_short before h =
        let less : length before < length (asked_sheet policy n handed) = omega (arith, nothing_found.1) in
        rw (nothing_found.0, lt-leb _ _ less)

    -- one that fits is written over the front of the buffer
    pub answers_sheet : (before after : List ℕ) → long ≤ length before → after ≡ over (asked_sheet policy n handed) before
        → wrote policy n handed before ≡ record { answer = Ok long; buffer = after }
    unfolding wrote wrote_as sheet_into
    answers_sheet before after h w =
        let fits : length (asked_sheet policy n handed) ≤ length before = omega (arith, nothing_found.1) in
        rw (nothing_found.0, le-leb _ _ fits, w, nothing_found.1)
