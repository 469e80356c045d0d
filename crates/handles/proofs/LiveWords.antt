-- Four words that show the live handles of a state: they are the only words that do, their lowest bit not set is the number that
-- a new handle takes, and their ones are as many as the live handles. Rests on the laws of bits.
use Prim.Native.Nat.{ℕ, zero, suc, ◌+◌, ◌*◌, ◌/◌, ◌%◌, ◌≤◌, ◌<◌}
use native.Mathlib.Decide.{ℕ_discrete}
use native.Mathlib.Omega.{arith}
use mathlib.Core.Path.{◌≡◌, refl, sym, ap, ◌∙◌}
use mathlib.Core.Bool.{Bool, true, false, cond}
use mathlib.Core.List.{List, [], ◌∷◌, ◌++◌}
use lib.Dec.{eqb, lit<}
use lib.ListN.{length, get_or, take, replicate}
use lib.Seq.{ext_get_or, take-suc, take_all}
use borrow.Author.Tests.{eqb-true, eqb-false}
use Rattle.rules.specs.State.{Now, Slot, dead, live, slot, is_live, most_handles, count_live, new_handle, all_live}
use Rattle.rules.proofs.NewHandle.{new_handle_dead, below_new_handle, new_handle_below, all_live_each}
use Rattle.std.specs.Prelude.{Some, None}
use Rattle.handles.specs.Live.{bit, Words, BitSet, free_in, count_below, count_in}
use Rattle.std.proofs.lemmas.Nat.Bits.{bit_at-lt, bit_at-zero, same_from_bits_below}
use Rattle.handles.proofs.LiveWordsBits.{bit_in, first_of, full_of}

-- bits that are 1 alike are alike
same_bit : (a b : ℕ) → a < 2 → b < 2 → eqb a 1 ≡ eqb b 1 → a ≡ b
same_bit a b la lb e = go (eqb b 1) refl
  where
    go : (t : Bool) → eqb b 1 ≡ t → a ≡ b
    go true q = omega (arith, eqb-true a 1 (e ∙ q), eqb-true b 1 q)
    go false q = omega (arith, eqb-false a 1 (e ∙ q), eqb-false b 1 q)

-- words with the same bits are the same words
pub words_unique : {v w : List ℕ} → Words v → Words w → ((h : ℕ) → h < most_handles → bit v h ≡ bit w h) → v ≡ w
words_unique {v} {w} p q same =
    ext_get_or 0 v w (p.four ∙ sym q.four) (λ i l. word i (omega (arith, p.four)))
  where
    word : (i : ℕ) → i < 4 → get_or v i 0 ≡ get_or w i 0
    word i l =
        same_from_bits_below 64 (get_or v i 0) (get_or w i 0) (p.fit i l) (q.fit i l)
        (λ j k. same_bit _ _ (bit_at-lt (get_or v i 0) j) (bit_at-lt (get_or w i 0) j)
        (sym (bit_in v i j k) ∙ same (i * 64 + j) (omega arith) ∙ bit_in w i j k))

-- two results of setting one bit are equal
pub set_unique : {words v w : List ℕ} {h : ℕ} {to : Bool} → BitSet words h to v → BitSet words h to w → v ≡ w
set_unique {words} {v} {w} {h} {to} p q = words_unique p.words_again q.words_again (λ i l. same i l (ℕ_discrete i h))
  where
    same : (i : ℕ) → i < most_handles → Dec (i ≡ h) → bit v i ≡ bit w i
    same i l (yes e) = ap (bit v) e ∙ p.bit_set ∙ sym (ap (bit w) e ∙ q.bit_set)
    same i l (no ne) = p.others i l ne ∙ sym (q.others i l ne)

-- each of four words of 0 is 0, and so is what is read past them
blank_word : (i : ℕ) → ◌≡◌ {A = ℕ} (get_or (replicate 4 0) i 0) 0
blank_word zero = refl
blank_word (suc zero) = refl
blank_word (suc (suc zero)) = refl
blank_word (suc (suc (suc zero))) = refl
blank_word (suc (suc (suc (suc i)))) = refl

-- four words of 0 are words; by computing they are `0 ∷ 0 ∷ 0 ∷ 0 ∷ []`
pub blank_words : Words (replicate 4 0)
blank_words = record { four = refl; fit = λ i l. rw (blank_word i) (lit< tt) }

-- and every bit of them is false
pub blank_bit : (h : ℕ) → bit (replicate 4 0) h ≡ false
unfolding bit
blank_bit h = rw (blank_word (h / 64), bit_at-zero (h % 64))

-- one slot more: counted where it is live
count_snoc : (slots : List Slot) (s : Slot) →
    count_live (slots ++ s ∷ []) ≡ cond (is_live s) (suc (count_live slots)) (count_live slots)
unfolding count_live is_live
count_snoc [] dead = refl
count_snoc [] (live k f) = refl
count_snoc (dead ∷ slots) s = count_snoc slots s
count_snoc (live k f ∷ slots) dead = ap suc (count_snoc slots dead)
count_snoc (live k f ∷ slots) (live k' f') = ap suc (count_snoc slots (live k' f'))

-- the words of a state
module _ (words : List ℕ) (now : Now) (shown : (h : ℕ) → h < most_handles → bit words h ≡ is_live (slot now h))
    (slots : length now.handles ≡ most_handles) where
  -- all handles are live: none is free; otherwise the free one is the number that a new handle takes
  pub free_shown : (all_live now ≡ true → free_in words ≡ None)
      × (all_live now ≡ false → free_in words ≡ Some (record { 0 = new_handle now }))
  unfolding is_live
  free_shown = (
    λ e. full_of words (λ h l. shown h l ∙ (all_live_each now slots).0 e h l),
    λ e. let inside : new_handle now < most_handles = new_handle_below now slots e in
        first_of words (new_handle now) inside (shown (new_handle now) inside ∙ ap is_live (new_handle_dead now))
        (λ j l. shown j (omega arith) ∙ below_new_handle now j l),
  )

  -- of the first n handles
  counted : (n : ℕ) → n ≤ most_handles → count_below words n ≡ count_live (take n now.handles)
  unfolding count_below count_live slot
  counted zero l = refl
  counted (suc n) l =
      rw (take-suc now.handles n dead (omega arith), count_snoc, ← counted n (omega arith), shown n l)

  -- the count of the words is the count of the live handles
  pub count_shown : count_in words ≡ count_live now.handles
  unfolding count_in
  count_shown = rw (take_all most_handles now.handles (omega arith)) at (counted most_handles (omega arith))
