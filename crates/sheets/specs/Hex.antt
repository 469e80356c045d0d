-- Bytes as the examples write them: hexadecimal digits, two to a byte. Assumes nothing.
use Rattle.std.specs.Prelude.{ℕ, zero, suc, ◌/◌, ◌%◌, List, [], ◌∷◌, ◌++◌}

-- the bytes that hexadecimal digits write, so many of them
unfoldable pub hex : (bytes digits : ℕ) → List ℕ
hex zero digits = []
hex (suc n) digits = hex n (digits / 256) ++ digits % 256 ∷ []
