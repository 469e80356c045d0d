-- Writing the table of contents and the bodies, command by command. Rests on Over and Handed.
use Prim.Native.Nat.{ℕ, suc, ◌+◌, ◌-◌, ◌*◌, ◌≤◌, ◌<◌}
use native.Mathlib.Numerals.{add-one}
use native.Mathlib.Omega.{arith}
use mathlib.Core.Path.{◌≡◌, refl, sym, ap, ◌∙◌}
use mathlib.Core.List.{List, ◌∷◌, ◌++◌}
use lib.ListN.{length, take, drop}
use borrow.Rule.Slice.PartMut.{put_mid}
use Rattle.sheets.specs.Bytes.{Bytes, two}
use Rattle.sheets.specs.Sheets.{entry_length, contents, bodies, bodies_begin}
use Rattle.sheets.specs.Calls.{over}
use Rattle.sheets.proofs.Calls.{over_length}
use Rattle.sheets.proofs.Good.{contents_length}
use Rattle.writer.specs.Writer.{handed_number, handed_body, handed_commands}
use Rattle.writer.specs.Parts.{AllHeld}
use Rattle.writer.proofs.Over.{over_put, over_lent}
use Rattle.writer.proofs.Handed.{handed_count, contents_next, bodies_next, bodies_next_length, bodies_grow, bodies_few}

-- the entries of the first i commands are written, and the next body begins at `offset`
pub record Listing (n : ℕ) (handed before : List ℕ) (i offset : ℕ) (out : List ℕ) : Type 0 where
  pub in_range : i ≤ n
  pub its_offset : offset ≡ bodies_begin n + length (bodies (handed_commands handed i))
  pub written : out ≡ over (contents (bodies_begin n) (handed_commands handed i)) before

pub listing_none : (n : ℕ) (handed before : List ℕ) → Listing n handed before 0 (3 + 3 * n) before
unfolding bodies_begin handed_commands bodies contents over
listing_none n handed before = record { in_range = omega arith; its_offset = omega arith; written = refl }

module _ (n : ℕ) (handed before : List ℕ) (i offset : ℕ) (out : List ℕ) (all : AllHeld n handed)
    (room : entry_length * n ≤ length before) (so_far : Listing n handed before i offset out) where
  entries : List ℕ
  entries = contents (bodies_begin n) (handed_commands handed i)

  entries_length : length entries ≡ 3 * i
  unfolding entries
  entries_length = omega (arith, contents_length (bodies_begin n) (handed_commands handed i), handed_count handed i)

  pub listing_length : length out ≡ length before
  unfolding entries
  listing_length =
      rw so_far.written (over_length entries before (omega (arith, entries_length, so_far.in_range)))

  -- the next entry fits behind those that are written
  pub listing_room : i < n → 3 * i + 3 ≤ length out
  listing_room h = omega (arith, room, listing_length)

  pub listing_small : offset ≤ 28675
  unfolding bodies_begin
  listing_small = omega (arith, so_far.its_offset, so_far.in_range, all.few, bodies_few handed i)

  pub listing_next : Bytes handed → i < n → {number : ℕ} {body back : List ℕ}
      → number ≡ handed_number handed i → body ≡ handed_body handed i
      → back ≡ over (number ∷ two offset) (take (length out - 3 * i) (drop (3 * i) out))
      → Listing n handed before (i + 1) (offset + length body)
      (take (3 * i) out ++ (back ++ drop (length out - 3 * i) (drop (3 * i) out)))
  unfolding entries
  listing_next bytes h {number} {body} {back} numbered same e =
      let held = all.each i h in
      let entry : ℕ → List ℕ = λ k. number ∷ two k in
      let next = contents_next handed bytes i held (bodies_begin n) in
      let lent = over_lent entries (entry offset) before (3 * i) out back entries_length so_far.written e in
      let in_place = ap (λ (k : ℕ). over (entries ++ entry k) before) so_far.its_offset in
      record {
        in_range = omega arith;
        its_offset = rw add-one (omega (arith, so_far.its_offset, ap length same, bodies_next_length handed bytes i held));
        written = rw add-one (lent ∙ in_place ∙ ap (λ (l : List ℕ). over l before) (sym (rw (← numbered) at next)));
      }

  pub listing_all : n ≤ i → out ≡ over (contents (bodies_begin n) (handed_commands handed n)) before
  listing_all h =
      let e : i ≡ n = omega (arith, so_far.in_range) in
      so_far.written ∙ ap (λ (k : ℕ). over (contents (bodies_begin n) (handed_commands handed k)) before) e

-- the bodies of the first i commands are written, and the next one's place is `at`
pub record Copying (n : ℕ) (handed before : List ℕ) (i at : ℕ) (out : List ℕ) : Type 0 where
  pub in_range : i ≤ n
  pub its_place : at ≡ length (bodies (handed_commands handed i))
  pub written : out ≡ over (bodies (handed_commands handed i)) before

pub copying_none : (n : ℕ) (handed before : List ℕ) → Copying n handed before 0 0 before
unfolding handed_commands bodies over
copying_none n handed before = record { in_range = omega arith; its_place = refl; written = refl }

module _ (n : ℕ) (handed before : List ℕ) (i at : ℕ) (out : List ℕ) (all : AllHeld n handed)
    (room : length (bodies (handed_commands handed n)) ≤ length before) (so_far : Copying n handed before i at out) where
  pub copying_length : length out ≡ length before
  copying_length =
      rw so_far.written
      (over_length (bodies (handed_commands handed i)) before (omega (arith, bodies_grow handed i n so_far.in_range)))

  pub copying_small : at ≤ 16384
  copying_small = omega (arith, so_far.its_place, so_far.in_range, all.few, bodies_few handed i)

  -- the next body fits behind those that are written
  pub copying_room : Bytes handed → i < n → {body : List ℕ} → body ≡ handed_body handed i → at + length body ≤ length out
  copying_room bytes h same =
      let held = all.each i h in
      omega (
        arith,
        so_far.its_place,
        ap length same,
        bodies_next_length handed bytes i held,
        bodies_grow handed (suc i) n h,
        copying_length,
      )

  pub copying_next : Bytes handed → i < n → {body back : List ℕ} → body ≡ handed_body handed i → back ≡ body
      → Copying n handed before (i + 1) (at + length body) (put_mid at (at + length body - at) out back)
  copying_next bytes h {body} {back} same copied =
      let held = all.each i h in
      let so_many = bodies (handed_commands handed i) in
      let next = bodies_next handed bytes i held in
      let long : at + length body - at ≡ length body = omega arith in
      let put = over_put so_many body before at (at + length body - at) out (sym so_far.its_place) long so_far.written in
      record {
        in_range = omega arith;
        its_place = rw add-one (omega (arith, so_far.its_place, ap length same, bodies_next_length handed bytes i held));
        written = rw (add-one, next, ← same, copied) put;
      }

  pub copying_all : n ≤ i → out ≡ over (bodies (handed_commands handed n)) before
  copying_all h =
      let e : i ≡ n = omega (arith, so_far.in_range) in
      so_far.written ∙ ap (λ (k : ℕ). over (bodies (handed_commands handed k)) before) e
