-- Document 01, "Handles, keys and terms": "A live handle stands for one key and carries a flag byte: wrap W 1, unwrap U 2,
-- encrypt E 4, decrypt D 8, extractable X 16, wrap with trusted only N 32, trusted T 64. The value 128 must be absent."
-- Assumes nothing.
use Rattle.std.specs.Prelude.{ℕ, ◌/◌, ◌%◌, Bool, eqb, leb}

pub data Flag : Type 0 where
  W U E D X N T : Flag

unfoldable pub value : Flag → ℕ
value W = 1
value U = 2
value E = 4
value D = 8
value X = 16
value N = 32
value T = 64

unfoldable pub has : Flag → ℕ → Bool
has flag byte = eqb (byte / value flag % 2) 1

-- a byte holds 128 exactly when it is 128 or more
unfoldable pub holds_128 : ℕ → Bool
holds_128 byte = leb 128 byte
