-- Links between the numbers of a table. Each number below n is in one chain or in none; a chain's first link leads to its
-- greatest number, and from a number the next link to the next smaller one of its chain. A link is the number that it leads to, or
-- none. Assumes nothing.
use Rattle.std.specs.Prelude.{ℕ, zero, suc, ◌<◌, ◌≡◌, Bool, cond, List, Option, Some, None, eqb, ltb, length, get_or}
use Rattle.shapes.specs.declared.TermNo.{TermNo}

-- a link as a number: one more than where it leads to, or 0 for none
abbrev pub as_number : Option TermNo → ℕ
as_number None = 0
as_number (Some t) = suc t.0

-- one more than the greatest number below n that passes a test, or 0
unfoldable pub last : (ℕ → Bool) → (n : ℕ) → ℕ
last test zero = 0
last test (suc n) = cond (test n) (suc n) (last test n)

-- `chain_of i` is 0 for a number in no chain, and one more than its chain's number for any other
unfoldable pub in_chain : (chain_of : ℕ → ℕ) (c i : ℕ) → Bool
in_chain chain_of c i = eqb (chain_of i) (suc c)

-- the link that a number of the chain (one more than c, or 0) carries: to the chain's next smaller number
unfoldable pub next_in : (chain_of : ℕ → ℕ) (i chain : ℕ) → ℕ
next_in chain_of i zero = 0
next_in chain_of i (suc c) = last (in_chain chain_of c) i

-- how many chains and numbers there can be
abbrev pub places : ℕ
places = 1024

pub record Linked (chain_of : ℕ → ℕ) (firsts nexts : List (Option TermNo)) (n : ℕ) : Type 0 where
  pub firsts_length : length firsts ≡ places
  pub nexts_length : length nexts ≡ places
  pub first_link : (c : ℕ) → c < places → as_number (get_or firsts c None) ≡ last (in_chain chain_of c) n
  pub next_link : (i : ℕ) → i < places → as_number (get_or nexts i None) ≡ cond (ltb i n) (next_in chain_of i (chain_of i)) 0
