-- Document 01, "Commands": the ten commands, their numbers and their bodies. A body names flag bytes, handles and terms;
-- handle numbers, key numbers and term numbers are three separate counts. Assumes nothing.
use Rattle.std.specs.Prelude.{ℕ, List, [], ◌∷◌}

pub data Command : Type 0 where
  GENERATE : (flags : ℕ) → Command
  WRAP : (a b : ℕ) → Command
  UNWRAP : (h t flags : ℕ) → Command
  ENCRYPT : (h t : ℕ) → Command
  DECRYPT : (h t : ℕ) → Command
  CORRUPT : (h : ℕ) → Command
  DESTROY : (h : ℕ) → Command
  OWN_KEY : Command
  OWN_DATA : Command
  SEAL : (k t : ℕ) → Command

unfoldable pub number : Command → ℕ
number (GENERATE f) = 1
number (WRAP a b) = 2
number (UNWRAP h t f) = 3
number (ENCRYPT h t) = 4
number (DECRYPT h t) = 5
number (CORRUPT h) = 6
number (DESTROY h) = 7
number OWN_KEY = 8
number OWN_DATA = 9
number (SEAL k t) = 10

-- what a body is made of
pub data Part : Type 0 where
  flags : ℕ → Part
  handle : ℕ → Part
  term : ℕ → Part

unfoldable pub body : Command → List Part
body (GENERATE f) = flags f ∷ []
body (WRAP a b) = handle a ∷ handle b ∷ []
body (UNWRAP h t f) = handle h ∷ term t ∷ flags f ∷ []
body (ENCRYPT h t) = handle h ∷ term t ∷ []
body (DECRYPT h t) = handle h ∷ term t ∷ []
body (CORRUPT h) = handle h ∷ []
body (DESTROY h) = handle h ∷ []
body OWN_KEY = []
body OWN_DATA = []
body (SEAL k t) = term k ∷ term t ∷ []
