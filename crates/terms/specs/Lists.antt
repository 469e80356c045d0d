-- Words about lists that every other definition uses: x is in the list, a test holds of something in it, and whether a number is in it.
-- Assumes nothing.
use Rattle.std.specs.Prelude.{ℕ, Bool, false, ◌||◌, eqb}
use mathlib.Core.List.{List, [], ◌∷◌, Memᴰ}

infix 40 ◌∈◌
-- x stands in the list
abbrev pub ◌∈◌ : {A : Type 0} → A → List A → Type 0
◌∈◌ x list = Memᴰ x list

-- a test holds of something in the list
unfoldable pub some_of : {A : Type 0} → (A → Bool) → List A → Bool
some_of test [] = false
some_of test (x ∷ list) = test x || some_of test list

-- whether a number stands in the list
unfoldable pub is_in : ℕ → List ℕ → Bool
is_in k list = some_of (eqb k) list
