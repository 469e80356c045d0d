-- What the machine's operations on the four words come to: reading, setting and clearing a bit, and the lowest bit not set. Rests on
-- the laws of the words, and on std's of bits.
use Prim.Native.Nat.{ℕ, ◌+◌, ◌-◌, ◌*◌, ◌/◌, ◌%◌, ◌^◌, ◌<◌}
use native.Mathlib.Nat.{lt_of_le_of_lt, mod-lt}
use native.Mathlib.Decide.{dec_lt}
use native.Mathlib.Omega.{arith}
use mathlib.Core.Logic.{◌≢◌}
use mathlib.Core.Path.{◌≡◌, sym, ap, ◌∙◌}
use mathlib.Core.Bool.{true, false}
use mathlib.Core.List.{List}
use lib.Dec.{eqb}
use lib.ListN.{get_or, set}
use lib.Pow.{pow_pos}
use lib.Bits.{bit_and, bit_or, and_le_l, or_lt}
use borrow.Author.Rules.{elem_Fits}
use borrow.Author.Tests.{eq-eqb}
use mir.Syntax.{w64}
use mir.Val.{Val}
use denote.Laws.{Is}
use denote.Array.{Array}
use denote.Plain.{UInt}
use Rattle.std.specs.Prelude.{Some, None}
use Rattle.std.specs.Int.{bit_at, bit_not, trailing_zeros}
use Rattle.std.proofs.lemmas.Nat.Bits.{shr_and_one, bit_at_ones, bit_at-trailing_ones}
use Rattle.std.proofs.lemmas.Nat.Bits.{bit_at_set_same, bit_at_set_other, bit_at_clear_same, bit_at_clear_other}
use Rattle.rules.specs.State.{most_handles}
use Rattle.handles.specs.Live.{bit, Words, free_in, BitSet}
use Rattle.handles.proofs.LiveWordsBits.{bit_in, first_of, full_of, bit_changed}

-- an array `[u64; 4]` is four words
pub array_words : (words : List ℕ) (vs : List Val) → Is (Array (UInt w64) 4) words vs → Words words
array_words words vs p = record { four = p.1.0.1; fit = λ i l. (elem_Fits w64 w64 words p.0 i p.1.1 tt).fits }

module _ (words : List ℕ) (h : ℕ) where
  -- the word, the place in it, and a shifted 1
  abbrev x : ℕ
  x = get_or words (h / 64) 0

  abbrev k : ℕ
  k = h % 64

  abbrev one : ℕ
  one = 1 * 2 ^ k % 2 ^ 64

  -- the word shifted down to the bit, and the rest masked off
  pub bit_read : eqb (bit_and (x / 2 ^ k) 1) 1 ≡ bit words h
  unfolding bit
  bit_read = ap (λ (n : ℕ). eqb n 1) (shr_and_one x k)

  module _ (w : Words words) (l : h < most_handles) where
    -- the word with a shifted 1 put in
    pub bit_on : BitSet words h true (set words (h / 64) (bit_or x one))
    bit_on =
        bit_changed words h (bit_or x one) true w l
        (or_lt 64 x one (w.fit (h / 64) (omega arith)) (mod-lt (1 * 2 ^ k) (pow_pos 64)))
        (eq-eqb _ 1 (bit_at_set_same w64 x k (omega arith))) (λ j m ne. bit_at_set_other w64 x k (omega arith) j ne)

    -- the word with the complement of a shifted 1 masked
    pub bit_off : BitSet words h false (set words (h / 64) (bit_and x (2 ^ 64 - 1 - one)))
    bit_off =
        bit_changed words h (bit_and x (bit_not w64 one)) false w l
        (lt_of_le_of_lt (and_le_l x (bit_not w64 one)) (w.fit (h / 64) (omega arith)))
        (rw (bit_at_clear_same w64 x k (omega arith))) (λ j m ne. bit_at_clear_other w64 x k (omega arith) j m ne)

-- a word that is full
abbrev pub full : ℕ
full = 2 ^ 64 - 1

-- before word i every word is full: every handle below is live
full_below : (words : List ℕ) (i : ℕ) → ((j : ℕ) → j < i → get_or words j 0 ≡ full) → (h : ℕ) → h < i * 64 → bit words h ≡ true
unfolding bit
full_below words i each h l =
    rw (each (h / 64) (omega arith)) (eq-eqb _ 1 (bit_at_ones 64 (h % 64) (omega arith)))

-- where every word is full no handle is free
pub none_free : (words : List ℕ) → ((j : ℕ) → j < 4 → get_or words j 0 ≡ full) → None ≡ free_in words
none_free words each = sym (full_of words (λ h l. full_below words 4 each h (omega arith)))

-- the first word that is not full has the free number, at the trailing zeros of its complement
pub free_found : (words : List ℕ) → Words words → (i : ℕ) → i < 4 → get_or words i 0 ≢ full
    → ((j : ℕ) → j < i → get_or words j 0 ≡ full)
    → Some (record { 0 = i * 64 + trailing_zeros w64 (full - get_or words i 0) }) ≡ free_in words
free_found words w i l ne each =
    let x = get_or words i 0 in
    let fits : x < 2 ^ 64 = w.fit i l in
    let low = bit_at-trailing_ones w64 x (omega arith) in
    let zeros = trailing_zeros w64 (full - x) in
    sym
    (first_of words (i * 64 + zeros) (omega (arith, low.0)) (bit_in words i zeros low.0 ∙ ap (λ (n : ℕ). eqb n 1) low.1)
    (λ h m. below h m (dec_lt h (i * 64))))
  where
    below : (h : ℕ) → h < i * 64 + trailing_zeros w64 (full - get_or words i 0) → Dec (h < i * 64) → bit words h ≡ true
    below h m (yes p) = full_below words i each h p
    below h m (no p) =
        let x = get_or words i 0 in
        let fits : x < 2 ^ 64 = w.fit i l in
        let low = bit_at-trailing_ones w64 x (omega arith) in
        let j = h - i * 64 in
        let e : h ≡ i * 64 + j = omega arith in
        rw (e, bit_in words i j (omega (arith, low.0))) (eq-eqb (bit_at x j) 1 (low.2 j (omega arith)))
