-- A line put on a page word by word, each with the blank or the line feed behind it. Rests on Placed and
-- Decimals.
use Prim.Native.Nat.{ℕ, ◌+◌, ◌<◌}
use native.Mathlib.Omega.{arith}
use mathlib.Core.Path.{◌≡◌, ap, ◌∙◌}
use mathlib.Core.List.{List, [], ◌∷◌, ◌++◌, append_assoc}
use lib.ListN.{length-append}
use Rattle.text.specs.declared.append.Page.{Page}
use Rattle.text.specs.Text.{decimal, line}
use Rattle.text.specs.Writing.{Puts}
use Rattle.text.proofs.Placed.{puts_then, puts_few, puts_as}
use Rattle.text.proofs.Decimals.{decimal_3}

-- a word with a blank behind it, and the rest of its line
pub puts_next : (w v : List ℕ) (words : List (List ℕ)) {m n : ℕ} {before middle after : Page}
    → Puts m (w ++ 32 ∷ []) before middle → Puts n (line (v ∷ words)) middle after
    → Puts (m + n) (line (w ∷ v ∷ words)) before after
unfolding line
puts_next w v words first second = puts_as (append_assoc w (32 ∷ []) (line (v ∷ words))) (puts_then first second)

-- the last word, with a line feed behind it
pub puts_end : (w : List ℕ) {m : ℕ} {before after : Page} → Puts m (w ++ 10 ∷ []) before after
    → Puts m (line (w ∷ [])) before after
unfolding line
puts_end w last = last

-- a word and the number of which it tells: the rest of the line behind them, or its end
module _ (w : List ℕ) (x : ℕ) where
  pub puts_told : (v : List ℕ) (words : List (List ℕ)) {m n : ℕ} {before middle after : Page}
      → Puts m (w ++ 32 ∷ [] ++ (decimal x ++ 32 ∷ [])) before middle → Puts n (line (v ∷ words)) middle after
      → Puts (m + n) (line (w ∷ decimal x ∷ v ∷ words)) before after
  unfolding line
  puts_told v words first second =
      let rest = line (v ∷ words) in
      puts_as
      (append_assoc (w ++ 32 ∷ []) (decimal x ++ 32 ∷ []) rest ∙ append_assoc w (32 ∷ []) (decimal x ++ 32 ∷ [] ++ rest)
      ∙ ap (λ (l : List ℕ). w ++ 32 ∷ l) (append_assoc (decimal x) (32 ∷ []) rest))
      (puts_then first second)

  pub puts_told_end : {m : ℕ} {before after : Page}
      → Puts m (w ++ 32 ∷ [] ++ (decimal x ++ 10 ∷ [])) before after
      → Puts m (line (w ∷ decimal x ∷ [])) before after
  unfolding line
  puts_told_end p = puts_as (append_assoc w (32 ∷ []) (decimal x ++ 10 ∷ [])) p

-- an answer has at most three digits
pub puts_answer : (x end : ℕ) {n : ℕ} → n ≡ x → x < 256 → {m : ℕ} {before after : Page} → Puts m (decimal n ++ end ∷ []) before after
    → Puts 4 (decimal x ++ end ∷ []) before after
puts_answer x end same small p =
    let as_x = puts_as (ap (λ (k : ℕ). decimal k ++ end ∷ []) same) p in
    puts_few 4 (omega (arith, length-append (decimal x) (end ∷ []), decimal_3 x small)) as_x
