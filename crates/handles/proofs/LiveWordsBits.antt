-- The bits of four words: the ones of a word count its live handles, the first dead handle is the free number, and a word with
-- one bit changed changes one handle's. Rests on std's laws of bits.
use Prim.Native.Nat.{ℕ, zero, suc, ◌+◌, ◌*◌, ◌/◌, ◌%◌, ◌^◌, ◌≤◌, ◌<◌}
use native.Mathlib.Nat.{mod-eq_of_lt, mod-one, mod-lt, zero-lt-suc, pow-succ', add-zero, add-suc}
use native.Mathlib.Decide.{ℕ_discrete}
use native.Mathlib.Omega.{arith}
use mathlib.Core.Path.{◌≡◌, refl, ap, ◌∙◌}
use mathlib.Core.Bool.{Bool, true, false, not}
use mathlib.Core.List.{List, [], ◌∷◌}
use lib.Dec.{eqb}
use lib.ListN.{length, get_or, set, length-set}
use lib.Seq.{get_or-set_same, get_or-set_other}
use lib.Arith.{digits_div, digits_mod, mod-mul}
use lib.Pow.{pow_pos}
use lib.Count.{ones, ones-le, ones_cat}
use Rattle.std.specs.Prelude.{Some, None, sum_by}
use Rattle.std.specs.Int.{bit_at}
use Rattle.std.proofs.lemmas.Nat.Bits.{bit_at-lt}
use Rattle.rules.specs.State.{most_handles}
use Rattle.sheets.proofs.Places.{smallest_some, smallest_none}
use Rattle.handles.specs.Live.{bit, Words, free_of, free_in, count_below, count_in, BitSet}

-- bit k of word i
pub bit_in : (words : List ℕ) (i k : ℕ) → k < 64 → bit words (i * 64 + k) ≡ eqb (bit_at (get_or words i 0) k) 1
unfolding bit
bit_in words i k l = rw (digits_div i l, digits_mod i l)

-- one bit more: the ones are those of the lower bits, and that bit
ones_small : (d : ℕ) → d < 2 → ones d ≡ d
unfolding ones
ones_small zero l = refl
ones_small (suc zero) l = refl
ones_small (suc (suc d)) l = absurd (omega arith)

ones_more : (x k : ℕ) → ones (x % 2 ^ suc k) ≡ ones (x % 2 ^ k) + bit_at x k
ones_more x k =
    ap (λ (n : ℕ). ones (x % n)) (pow-succ' 2 k) ∙ ap ones (mod-mul x (zero-lt-suc 1) (pow_pos k))
    ∙ ones_cat k (bit_at x k) (x % 2 ^ k) (mod-lt x (pow_pos k))
    ∙ omega (arith, ones_small (bit_at x k) (bit_at-lt x k))

-- one handle more: counted where its bit is 1
count_more : (words : List ℕ) (h d : ℕ) → d < 2 → bit words h ≡ eqb d 1 →
    count_below words (suc h) ≡ count_below words h + d
unfolding count_below
count_more words h zero l e = rw e (omega arith)
count_more words h (suc zero) l e = rw e (omega arith)
count_more words h (suc (suc d)) l e = absurd (omega arith)

-- a word's first k bits are counted by the ones of its lowest k
count_word : (words : List ℕ) (i k : ℕ) → k ≤ 64 →
    count_below words (i * 64 + k) ≡ count_below words (i * 64) + ones (get_or words i 0 % 2 ^ k)
unfolding ones
count_word words i zero l = rw (add-zero (i * 64), mod-one, add-zero)
count_word words i (suc k) l =
    let x = get_or words i 0 in
    ap (count_below words) (add-suc (i * 64) k)
    ∙ count_more words (i * 64 + k) (bit_at x k) (bit_at-lt x k) (bit_in words i k l)
    ∙ omega (arith, count_word words i k (omega arith), ones_more x k)

-- of no handles none is live
none_counted : (words : List ℕ) → count_below words 0 ≡ 0
unfolding count_below
none_counted words = refl

-- the ones of four words, added up
sum_of_four : (words : List ℕ) → length words ≡ 4 → sum_by ones words
    ≡ ones (get_or words 0 0) + ones (get_or words 1 0) + ones (get_or words 2 0) + ones (get_or words 3 0)
sum_of_four (a ∷ b ∷ c ∷ d ∷ []) e = omega arith
sum_of_four [] e = absurd (omega arith)
sum_of_four (a ∷ []) e = absurd (omega arith)
sum_of_four (a ∷ b ∷ []) e = absurd (omega arith)
sum_of_four (a ∷ b ∷ c ∷ []) e = absurd (omega arith)
sum_of_four (a ∷ b ∷ c ∷ d ∷ f ∷ rest) e = absurd (omega arith)

module _ (words : List ℕ) (w : Words words) where
  -- the live handles are the ones of the four words
  pub sum_counts : sum_by ones words ≡ count_in words
  unfolding count_in
  sum_counts =
      omega (
        arith,
        sum_of_four words w.four,
        none_counted words,
        whole 0 (omega arith),
        whole 1 (omega arith),
        whole 2 (omega arith),
        whole 3 (omega arith),
      )
    where
      whole : (i : ℕ) → i < 4 → count_below words (i * 64 + 64) ≡ count_below words (i * 64) + ones (get_or words i 0)
      whole i l = rw (mod-eq_of_lt (w.fit i l)) at (count_word words i 64 (omega arith))

  -- no word has more than 64 ones
  pub few_ones : sum_by ones words ≤ most_handles
  few_ones =
      omega (arith, sum_of_four words w.four, few 0 (omega arith), few 1 (omega arith), few 2 (omega arith), few 3 (omega arith))
    where
      few : (i : ℕ) → i < 4 → ones (get_or words i 0) ≤ 64
      few i l = ones-le 64 (get_or words i 0) (w.fit i l)

-- no handle is dead: none is free
pub full_of : (words : List ℕ) → ((h : ℕ) → h < most_handles → bit words h ≡ true) → free_in words ≡ None
unfolding free_in free_of
full_of words each = ap free_of ((smallest_none (λ h. not (bit words h)) most_handles).1 (λ h l. ap not (each h l)))

-- the lowest dead handle is free
pub first_of : (words : List ℕ) (h : ℕ) → h < most_handles → bit words h ≡ false →
    ((j : ℕ) → j < h → bit words j ≡ true) → free_in words ≡ Some (record { 0 = h })
unfolding free_in free_of
first_of words h l dead lower =
    ap free_of
    ((smallest_some (λ h. not (bit words h)) most_handles h).1
    (record { in_range = l; passes = ap not dead; none_before = λ j k. ap not (lower j k) }))

-- one word with one bit changed: one handle's is changed
pub bit_changed : (words : List ℕ) (h y : ℕ) (to : Bool) → Words words → h < most_handles → y < 2 ^ 64 →
    eqb (bit_at y (h % 64)) 1 ≡ to →
    ((j : ℕ) → j < 64 → (j ≡ h % 64 → ⊥) → bit_at y j ≡ bit_at (get_or words (h / 64) 0) j) →
    BitSet words h to (set words (h / 64) y)
unfolding bit
bit_changed words h y to w l fits at others =
    record {
      words_again = record { four = length-set words (h / 64) y ∙ w.four; fit = λ i k. fit i k (ℕ_discrete i (h / 64)) };
      bit_set = rw (get_or-set_same words (h / 64) y 0 inside) at;
      others = λ i k ne. other i k ne (ℕ_discrete (i / 64) (h / 64));
    }
  where
    inside : h / 64 < length words
    inside = omega (arith, w.four)

    fit : (i : ℕ) → i < 4 → Dec (i ≡ h / 64) → get_or (set words (h / 64) y) i 0 < 2 ^ 64
    fit i k (yes e) = rw (e, get_or-set_same words (h / 64) y 0 inside) fits
    fit i k (no ne) = rw (get_or-set_other words (h / 64) i y 0 ne) (w.fit i k)

    other : (i : ℕ) → i < most_handles → (i ≡ h → ⊥) → Dec (i / 64 ≡ h / 64) → bit (set words (h / 64) y) i ≡ bit words i
    other i k ne (yes e) =
        let same = others (i % 64) (omega arith) (λ (q : i % 64 ≡ h % 64). ne (omega arith)) in
        rw (e, get_or-set_same words (h / 64) y 0 inside, same)
    other i k ne (no far) = rw (get_or-set_other words (h / 64) (i / 64) y 0 far)
