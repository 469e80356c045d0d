-- Laws of bytes written into a buffer from a place on: nothing, one byte, one string behind another. Rests on specs/Writing.antt.
use Prim.Native.Nat.{ℕ, ◌+◌, ◌-◌, ◌≤◌}
use native.Mathlib.Nat.{add-zero, zero-add}
use native.Mathlib.Omega.{arith}
use mathlib.Core.Path.{◌≡◌, refl, sym, ap, ◌∙◌, subst}
use mathlib.Core.List.{List, [], ◌∷◌, ◌++◌, append_assoc, append-nil}
use lib.ListN.{length, take, drop, length-append, length-drop, take-append-drop}
use lib.Seq.{length-take-le, take_at, drop_at, drop-drop}
use borrow.Rule.Slice.PartMut.{put_mid}
use Rattle.sheets.specs.Calls.{over}
use Rattle.text.specs.declared.append.Page.{Page}
use Rattle.text.specs.Writing.{placed, Wrote, Puts, Printed}

-- what stands before, at and behind bytes that were placed inside the buffer
module _ (at : ℕ) (bytes buffer : List ℕ) (inside : at + length bytes ≤ length buffer) where
  front_length : length (take at buffer ++ bytes) ≡ at + length bytes
  front_length =
      length-append (take at buffer) bytes ∙ ap (λ (n : ℕ). n + length bytes) (length-take-le at buffer (omega arith))

  placed_front : take (at + length bytes) (placed at bytes buffer) ≡ take at buffer ++ bytes
  unfolding placed
  placed_front = take_at (take at buffer ++ bytes) (drop (at + length bytes) buffer) (at + length bytes) front_length

  placed_behind : drop (at + length bytes) (placed at bytes buffer) ≡ drop (at + length bytes) buffer
  unfolding placed
  placed_behind = drop_at (take at buffer ++ bytes) (drop (at + length bytes) buffer) (at + length bytes) front_length

  pub placed_length : length (placed at bytes buffer) ≡ length buffer
  unfolding placed
  placed_length =
      omega (
        arith,
        length-append (take at buffer ++ bytes) (drop (at + length bytes) buffer),
        length-drop (at + length bytes) buffer,
        front_length,
      )

  -- more bytes placed behind them are the bytes of both placed at once
  placed_then : (more : List ℕ) → placed (at + length bytes) more (placed at bytes buffer) ≡ placed at (bytes ++ more) buffer
  unfolding placed
  placed_then more =
      let far : at + length bytes + length more ≡ at + length (bytes ++ more) = omega (arith, length-append bytes more) in
      let rest : drop (at + length bytes + length more) (placed at bytes buffer) ≡ drop (at + length (bytes ++ more)) buffer =
      sym (drop-drop (length more) (at + length bytes) (placed at bytes buffer)) ∙ ap (drop (length more)) placed_behind
      ∙ drop-drop (length more) (at + length bytes) buffer
      ∙ ap (λ (n : ℕ). drop n buffer) far in
      ap (λ (l : List ℕ). l ++ more ++ drop (at + length bytes + length more) (placed at bytes buffer)) placed_front
      ∙ ap (λ (l : List ℕ). take at buffer ++ bytes ++ more ++ l) rest
      ∙ ap (λ (l : List ℕ). l ++ drop (at + length (bytes ++ more)) buffer) (append_assoc (take at buffer) bytes more)

-- the buffer keeps its length
pub wrote_length : {m : ℕ} {bytes before after : List ℕ} {at end : ℕ} → Wrote m bytes before at after end
    → length after ≡ length before
wrote_length {bytes} {before} {at} w = ap length w.written ∙ placed_length at bytes before w.inside

-- nothing is written
pub wrote_none : (buffer : List ℕ) (at : ℕ) → at ≤ length buffer → Wrote 0 [] buffer at buffer at
unfolding placed
wrote_none buffer at h =
    record {
      written = rw (add-zero, append-nil) (sym (take-append-drop at buffer));
      behind = sym (add-zero at);
      few = omega arith;
      inside = omega arith;
    }

-- a string is written, copied over the part of the buffer that it fills
pub wrote_copied : (buffer : List ℕ) (at : ℕ) (bytes copied : List ℕ) → copied ≡ bytes → at + length bytes ≤ length buffer
    → Wrote (length bytes) bytes buffer at (put_mid at (at + length bytes - at) buffer copied) (at + length bytes)
unfolding placed
wrote_copied buffer at bytes copied same h =
    let long : at + length bytes - at ≡ length bytes = omega arith in
    record {
      written =
          rw (same, long) (ap (λ (l : List ℕ). take at buffer ++ (bytes ++ l)) (drop-drop (length bytes) at buffer)
          ∙ sym (append_assoc (take at buffer) bytes (drop (at + length bytes) buffer)));
      behind = refl;
      few = omega arith;
      inside = h;
    }

-- one string is written, and another behind it
pub wrote_then : {m n : ℕ} {x y before middle after : List ℕ} {at next end : ℕ}
    → Wrote m x before at middle next → Wrote n y middle next after end → Wrote (m + n) (x ++ y) before at after end
wrote_then {x} {y} {before} {middle} {at} {next} first second =
    let same = wrote_length first in
    record {
      written =
          second.written ∙ ap (λ (k : ℕ). placed k y middle) first.behind
          ∙ ap (placed (at + length x) y) first.written
          ∙ placed_then at x before first.inside y;
      behind = omega (arith, first.behind, second.behind, length-append x y);
      few = omega (arith, first.few, second.few, length-append x y);
      inside = omega (arith, second.inside, first.behind, same, length-append x y);
    }

-- what was written, put on a page
pub puts : {most : ℕ} {bytes : List ℕ} {before after : Page} → after.buffer.ghost_name ≡ before.buffer.ghost_name
    → Wrote most bytes before.buffer.now before.at after.buffer.now after.at
    → Puts most bytes before after
puts same w = record { same_buffer = same; same_length = wrote_length w; wrote = w }

-- nothing is put on it
pub puts_none : (page : Page) → page.at ≤ length page.buffer.now → Puts 0 [] page page
puts_none page h = puts refl (wrote_none page.buffer.now page.at h)

-- one string is put on it, and another behind it
pub puts_then : {m n : ℕ} {x y : List ℕ} {before middle after : Page} → Puts m x before middle → Puts n y middle after
    → Puts (m + n) (x ++ y) before after
puts_then first second =
    puts (second.same_buffer ∙ first.same_buffer) (wrote_then first.wrote second.wrote)

-- at most so many bytes are at most more, and equal bytes are the same bytes
pub puts_few : {m : ℕ} {bytes : List ℕ} {before after : Page} (n : ℕ) → length bytes ≤ n → Puts m bytes before after
    → Puts n bytes before after
puts_few n h p =
    let w = p.wrote in
    puts p.same_buffer (record { written = w.written; behind = w.behind; few = h; inside = w.inside })

pub puts_at_most : {m : ℕ} {bytes : List ℕ} {before after : Page} (n : ℕ) → m ≤ n → Puts m bytes before after
    → Puts n bytes before after
puts_at_most n h p = puts_few n (omega (arith, p.wrote.few)) p

pub puts_as : {m : ℕ} {bytes same : List ℕ} {before after : Page} → bytes ≡ same → Puts m bytes before after
    → Puts m same before after
puts_as {m} {before} {after} e p = subst (λ (l : List ℕ). Puts m l before after) e p

-- a name is as long as what it names, at most so many bytes
pub puts_name : (most end : ℕ) {name w : List ℕ} → name ≡ w → length name ≤ most → {before after : Page}
    → Puts (length name + 1) (name ++ end ∷ []) before after
    → Puts (most + 1) (w ++ end ∷ []) before after
puts_name most end same short p = puts_as (ap (λ (l : List ℕ). l ++ end ∷ []) same) (puts_at_most (most + 1) (omega arith) p)

-- a text put on a page from the buffer's front on
pub puts_all : {m : ℕ} {text : List ℕ} {before after : Page} → m ≤ 131072 → before.at ≡ 0 → Puts m text before after
    → Printed text before.buffer.now after.buffer.now after.at
unfolding placed over
puts_all {text} {before} h front p =
    let w = p.wrote in
    record {
      written = rw (front, zero-add) at w.written;
      how_long = omega (arith, w.behind);
      few = omega (arith, w.few);
      fits = omega (arith, w.inside);
    }
