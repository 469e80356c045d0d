-- Document 01, "Handles, keys and terms": what the token is now, and what has passed between token and caller.
-- No rule for refusing looks at the second half, save through what is held. Assumes nothing.
use Rattle.std.specs.Prelude.{ℕ, suc, Bool, true, false, List, [], ◌∷◌, ltb, leb, length, get_or, replicate}
use Rattle.terms.specs.Terms.{Term, Table, item, key, seal}
use Rattle.terms.specs.Compromise.{Link}

-- a handle number is dead, or live: it stands for one key and carries a flag byte
pub data Slot : Type 0 where
  dead : Slot
  live : (key flags : ℕ) → Slot

pub data Origin : Type 0 where
  generated own : Origin

-- the token: the terms by number, the handles by number, the keys' origins by key number, how many data items there are
pub record Now : Type 0 where
  pub table : Table
  pub handles : List Slot
  pub origins : List Origin
  pub items : ℕ

-- a key, and the flag byte that it was generated with
pub data Birth : Type 0 where
  ◌born◌ : (key flags : ℕ) → Birth

infix 75 ◌born◌
-- the caller's own terms, the terms given, the keys corrupted, the done WRAPs, the keys generated
pub record Past : Type 0 where
  pub own : List Term
  pub given : List Term
  pub corrupted : List ℕ
  pub wraps : List Link
  pub births : List Birth

pub record State : Type 0 where
  pub now : Now
  pub past : Past

-- "At most 256 live handles (0 to 255)." "At most 1,024 terms."
abbrev pub most_handles : ℕ
most_handles = 256

abbrev pub most_terms : ℕ
most_terms = 1024

unfoldable pub fresh : State
fresh =
    record {
      now = record { table = []; handles = replicate most_handles dead; origins = []; items = 0 };
      past = record { own = []; given = []; corrupted = []; wraps = []; births = [] };
    }

-- what a number names. Of a dead handle and of a term that does not exist nothing else is asked, whatever stands here for it
unfoldable pub slot : Now → ℕ → Slot
slot now h = get_or now.handles h dead

unfoldable pub is_live : Slot → Bool
is_live dead = false
is_live (live k f) = true

unfoldable pub key_of_slot : Slot → ℕ
key_of_slot dead = 0
key_of_slot (live k f) = k

unfoldable pub flags_of : Slot → ℕ
flags_of dead = 0
flags_of (live k f) = f

unfoldable pub is_term : Now → ℕ → Bool
is_term now t = ltb t (length now.table)

unfoldable pub term_at : Now → ℕ → Term
term_at now t = get_or now.table t (item 0)

-- the kinds of term
unfoldable pub is_key : Term → Bool
is_key (item n) = false
is_key (key k) = true
is_key (seal k m) = false

unfoldable pub key_number : Term → ℕ
key_number (item n) = 0
key_number (key k) = k
key_number (seal k m) = 0

unfoldable pub payload : Term → Term
payload (item n) = item n
payload (key k) = key k
payload (seal k m) = m

-- "A new handle takes the lowest number not live"
unfoldable pub lowest_dead : List Slot → ℕ
lowest_dead [] = 0
lowest_dead (dead ∷ slots) = 0
lowest_dead (live k f ∷ slots) = suc (lowest_dead slots)

unfoldable pub count_live : List Slot → ℕ
count_live [] = 0
count_live (dead ∷ slots) = count_live slots
count_live (live k f ∷ slots) = suc (count_live slots)

unfoldable pub new_handle : Now → ℕ
new_handle now = lowest_dead now.handles

unfoldable pub all_live : Now → Bool
all_live now = leb most_handles (count_live now.handles)

-- "Keys number from 0 in order of creation, token's and caller's together"
unfoldable pub new_key : Now → ℕ
new_key now = length now.origins

unfoldable pub table_full : Now → Bool
table_full now = leb most_terms (length now.table)
