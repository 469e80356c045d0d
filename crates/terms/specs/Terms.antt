-- Document 01, "Handles, keys and terms": a term is a data item, a key, or a seal of one term under one key.
-- A data item is named by its order of creation and a key by its number; a term's own number is its place in a token's table,
-- and stands in no term. No cipher is run: a seal is a symbol, the same for wrapping and for encryption.
-- Assumes nothing.
use Rattle.std.specs.Prelude.{ℕ, suc, Bool, false, ◌&&◌, cond, List, [], ◌∷◌, ◌++◌, eqb}
use Rattle.terms.specs.Lists.{some_of}

pub data Term : Type 0 where
  item : ℕ → Term
  key : ℕ → Term
  seal : (under : ℕ) (payload : Term) → Term

-- two terms are the same symbol
unfoldable pub same : Term → Term → Bool
same (item a) (item b) = eqb a b
same (item a) (key b) = false
same (item a) (seal k m) = false
same (key a) (item b) = false
same (key a) (key b) = eqb a b
same (key a) (seal k m) = false
same (seal j l) (item b) = false
same (seal j l) (key b) = false
same (seal j l) (seal k m) = eqb j k && same l m

-- "Terms number from 0 as they come into being": a table lists the terms there are, and a term's number is its place there
abbrev pub Table : Type 0
Table = List Term

unfoldable pub listed : Table → Term → Bool
listed table m = some_of (same m) table

unfoldable pub number_of : Table → Term → ℕ
number_of [] m = 0
number_of (x ∷ table) m = cond (same m x) 0 (suc (number_of table m))

-- "an equal term is never entered twice"
unfoldable pub enter : Table → Term → Table
enter table m = cond (listed table m) table (table ++ m ∷ [])
