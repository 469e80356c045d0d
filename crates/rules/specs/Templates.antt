-- Document 01, "Templates each policy grants": the table, each cell once.
-- Assumes nothing.
use Rattle.std.specs.Prelude.{ℕ, Bool, List, [], ◌∷◌, leb}
use Rattle.terms.specs.Lists.{is_in}

pub data Policy : Type 0 where
  plain stp stp+ : Policy

-- the two ways in which a handle comes to be
pub data Making : Type 0 where
  by_generate by_unwrap : Making

pub data Grant : Type 0 where
  every_byte : Grant
  only : List ℕ → Grant

unfoldable pub templates : Policy → Making → Grant
templates plain by_generate = every_byte
templates plain by_unwrap = every_byte
templates stp by_generate = only (12 ∷ 28 ∷ 3 ∷ 19 ∷ [])
templates stp by_unwrap = only (22 ∷ [])
templates stp+ by_generate = only (67 ∷ 51 ∷ 28 ∷ [])
templates stp+ by_unwrap = only (54 ∷ [])

-- every flag byte is 0 to 127
unfoldable pub grants : Grant → ℕ → Bool
grants every_byte byte = leb byte 127
grants (only bytes) byte = is_in byte bytes
