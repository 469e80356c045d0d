-- Document 01, "Commands": what a command that is done answers, and what it changes. Each change is a small one with a name.
-- Assumes nothing.
use Rattle.std.specs.Prelude.{ℕ, suc, List, [], ◌∷◌, ◌++◌, set}
use Rattle.terms.specs.Terms.{Term, item, key, seal, enter}
use Rattle.terms.specs.Compromise.{Link, ◌under◌}
use Rattle.rules.specs.Commands.{Command, GENERATE, WRAP, UNWRAP, ENCRYPT, DECRYPT, CORRUPT, DESTROY, OWN_KEY, OWN_DATA, SEAL}
use Rattle.rules.specs.State.{Slot, dead, live, Origin, generated, own, Birth, ◌born◌, Now, Past, State}
use Rattle.rules.specs.State.{slot, key_of_slot, term_at, key_number, payload, new_handle, new_key}

-- the column "value answered"
pub data Value : Type 0 where
  handle_number : ℕ → Value
  term_number : Term → Value

unfoldable pub answers : Now → Command → Value
answers now (GENERATE f) = handle_number (new_handle now)
answers now (WRAP a b) = term_number (seal (key_of_slot (slot now a)) (key (key_of_slot (slot now b))))
answers now (UNWRAP h t f) = handle_number (new_handle now)
answers now (ENCRYPT h t) = term_number (seal (key_of_slot (slot now h)) (term_at now t))
answers now (DECRYPT h t) = term_number (payload (term_at now t))
answers now (CORRUPT h) = term_number (key (key_of_slot (slot now h)))
answers now (DESTROY h) = handle_number h
answers now OWN_KEY = term_number (key (new_key now))
answers now OWN_DATA = term_number (item now.items)
answers now (SEAL k t) = term_number (seal (key_number (term_at now k)) (term_at now t))

-- of the token: a term comes into being, unless its equal is there; a handle number is bound or set free; a key or a data
-- item is counted. Of what has passed: a term is the caller's own, a term is given, a key is corrupted, a WRAP is done, a key is
-- generated with a flag byte
pub data Change : Type 0 where
  enters : Term → Change
  binds : (h : ℕ) → Slot → Change
  counts_key : Origin → Change
  counts_item : Change
  owns : Term → Change
  gives : Term → Change
  corrupts : (k : ℕ) → Change
  wraps : Link → Change
  bears : Birth → Change

-- what a command changes besides giving the term that it answers
unfoldable pub changes : Now → Command → List Change
changes now (GENERATE f) =
    counts_key generated ∷ enters (key (new_key now)) ∷ bears (new_key now born f) ∷ binds (new_handle now) (live (new_key now) f) ∷ []
changes now (WRAP a b) = wraps (key_of_slot (slot now b) under key_of_slot (slot now a)) ∷ []
changes now (UNWRAP h t f) = binds (new_handle now) (live (key_number (payload (term_at now t))) f) ∷ []
changes now (ENCRYPT h t) = []
changes now (DECRYPT h t) = []
changes now (CORRUPT h) = corrupts (key_of_slot (slot now h)) ∷ []
changes now (DESTROY h) = binds h dead ∷ []
changes now OWN_KEY = counts_key own ∷ owns (key (new_key now)) ∷ []
changes now OWN_DATA = counts_item ∷ owns (item now.items) ∷ []
changes now (SEAL k t) = []

-- "Every term answered is given to the caller."
unfoldable pub giving : Value → List Change
giving (handle_number h) = []
giving (term_number m) = enters m ∷ gives m ∷ []

unfoldable pub all_changes : Now → Command → List Change
all_changes now c = changes now c ++ giving (answers now c)

unfoldable pub change_now : Change → Now → Now
change_now (enters m) n = record { table = enter n.table m; handles = n.handles; origins = n.origins; items = n.items }
change_now (binds h s) n = record { table = n.table; handles = set n.handles h s; origins = n.origins; items = n.items }
change_now (counts_key o) n = record { table = n.table; handles = n.handles; origins = n.origins ++ o ∷ []; items = n.items }
change_now counts_item n = record { table = n.table; handles = n.handles; origins = n.origins; items = suc n.items }
change_now (owns m) n = n
change_now (gives m) n = n
change_now (corrupts k) n = n
change_now (wraps link) n = n
change_now (bears birth) n = n

unfoldable pub change_past : Change → Past → Past
change_past (enters m) p = p
change_past (binds h s) p = p
change_past (counts_key o) p = p
change_past counts_item p = p
change_past (owns m) p =
    record { own = m ∷ p.own; given = p.given; corrupted = p.corrupted; wraps = p.wraps; births = p.births }
change_past (gives m) p =
    record { own = p.own; given = m ∷ p.given; corrupted = p.corrupted; wraps = p.wraps; births = p.births }
change_past (corrupts k) p =
    record { own = p.own; given = p.given; corrupted = k ∷ p.corrupted; wraps = p.wraps; births = p.births }
change_past (wraps link) p =
    record { own = p.own; given = p.given; corrupted = p.corrupted; wraps = link ∷ p.wraps; births = p.births }
change_past (bears birth) p =
    record { own = p.own; given = p.given; corrupted = p.corrupted; wraps = p.wraps; births = birth ∷ p.births }

unfoldable pub all_of : List Change → State → State
all_of [] s = s
all_of (change ∷ list) s = all_of list (record { now = change_now change s.now; past = change_past change s.past })

-- the state after a done command
unfoldable pub after : State → Command → State
after s c = all_of (all_changes s.now c) s
