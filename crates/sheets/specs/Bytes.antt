-- Document 01, "Sheet and report": "Numbers of two bytes are big-endian." A byte string is a list of numbers below 256.
-- Assumes nothing.
use Rattle.std.specs.Prelude.{ℕ, ◌+◌, ◌*◌, ◌/◌, ◌%◌, ◌<◌, List, [], ◌∷◌, get_or}
use Rattle.terms.specs.Lists.{◌∈◌}

abbrev pub Bytes : List ℕ → Type 0
Bytes s = (x : ℕ) → x ∈ s → x < 256

-- a number's two bytes
unfoldable pub two : ℕ → List ℕ
two n = n / 256 ∷ n % 256 ∷ []

-- byte i of a string, and the two-byte number that begins there. What stands past the end is never asked for
unfoldable pub byte_at : List ℕ → ℕ → ℕ
byte_at s i = get_or s i 0

unfoldable pub two_at : List ℕ → ℕ → ℕ
two_at s i = byte_at s i * 256 + byte_at s (i + 1)
