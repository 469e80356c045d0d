-- Every row of the table of refusals has its answer and its value, by computing `step` there. Each single test of each command, left
-- out, would change some row's answer, and so would answering the greater of two numbers that both apply.
-- Rests on the definitions alone.
use Prim.Native.Nat.{ℕ}
use mathlib.Core.Path.{◌≡◌, refl, sym, ap, ◌∙◌}
use mathlib.Core.List.Memᴰ
use mathlib.Core.List.{List, [], ◌∷◌, map}
use Rattle.terms.specs.Lists.{◌∈◌}
use Rattle.rules.specs.Templates.{Policy}
use Rattle.rules.specs.Commands.{Command}
use Rattle.rules.specs.Runs.{Answer, step}
use Rattle.rules.proofs.Opened.{rules_opened}
use Rattle.rules.proofs.RefusalTable.Scenes.{Scene, state_in, held_in, ◌then◌, small, one_handle_left, all_handles, one_term_left}
use Rattle.rules.proofs.RefusalTable.Scenes.{all_terms, all_of_both, all_held, nothing_done}
use Rattle.rules.proofs.RefusalTable.Rows.{Row, row, rows}
pub mod Scenes
pub mod Rows
pub mod Reached

-- what is said at a row, and what the row says, under each of its policies
unfoldable pub said : Row → List Answer
said (row policies at c answer value) = map (λ p. (step p (held_in at) (state_in at) c).said) policies

unfoldable pub expected : Row → List Answer
expected (row policies at c answer value) = map (λ p. record { answer = answer; value = value }) policies

-- all rows at once
pub rows_answered : map said rows ≡ map expected rows
unfolding rules_opened said expected rows state_in held_in ◌then◌ small all_held nothing_done one_handle_left all_handles one_term_left
    all_terms all_of_both
rows_answered = refl

-- two functions that agree over a whole list agree at each thing in it
agree_at : {A B : Type 0} (f g : A → B) {x : A} {list : List A} → map f list ≡ map g list → x ∈ list → f x ≡ g x
agree_at f g {x} e (Memᴰ.head {x = y} q) = let h : f y ≡ g y = cc in ap f q ∙ h ∙ sym (ap g q)
agree_at f g e (Memᴰ.tail {xs = rest} m) = let h : map f rest ≡ map g rest = cc in agree_at f g h m

-- each row: under each policy that it names, the command gets in its scene the answer and the value that it names
pub row_answered : {policies : List Policy} {at : Scene} {c : Command} {answer value : ℕ} {p : Policy}
    → row policies at c answer value ∈ rows
    → p ∈ policies
    → (step p (held_in at) (state_in at) c).said ≡ record { answer = answer; value = value }
unfolding said expected
row_answered {at} {c} {answer} {value} m q =
    agree_at (λ p. (step p (held_in at) (state_in at) c).said) (λ p. record { answer = answer; value = value })
    (agree_at said expected rows_answered m) q
