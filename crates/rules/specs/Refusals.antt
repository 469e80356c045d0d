-- Document 01, "What is answered": for each number from 2 to 11, the test under which it is answered, in that order. "If
-- several of 1 to 11 apply to a command, the smallest is answered", so a test may take for granted what an earlier one asked:
-- "a test that needs a live handle or an existing term is not asked where 3 or 4 applies". Assumes nothing.
use Rattle.std.specs.Prelude.{ℕ, Bool, true, false, not, ◌&&◌, cond, List, [], ◌∷◌, eqb}
use Rattle.terms.specs.Lists.{some_of}
use Rattle.terms.specs.Terms.{Term, item, key, seal, listed}
use Rattle.rules.specs.Flags.{Flag, W, U, E, D, X, N, T, has, holds_128}
use Rattle.rules.specs.Templates.{Policy, plain, stp, stp+, Making, by_generate, by_unwrap, templates, grants}
use Rattle.rules.specs.Commands.{Command, GENERATE, WRAP, UNWRAP, ENCRYPT, DECRYPT, CORRUPT, DESTROY, OWN_KEY, OWN_DATA, SEAL}
use Rattle.rules.specs.Commands.{Part, flags, handle, term, body}
use Rattle.rules.specs.State.{Now, slot, is_live, key_of_slot, flags_of, is_term, term_at, is_key, payload, all_live, table_full}
use Rattle.rules.specs.Changes.{Change, enters, binds, counts_key, counts_item, owns, gives, corrupts, wraps, bears, all_changes}

-- 2: a flag byte holds 128
unfoldable pub bad_flags : Part → Bool
bad_flags (flags f) = holds_128 f
bad_flags (handle h) = false
bad_flags (term t) = false

-- 3: a handle named is not live
unfoldable pub not_live : Now → Part → Bool
not_live now (flags f) = false
not_live now (handle h) = not (is_live (slot now h))
not_live now (term t) = false

-- 4: a term named does not exist
unfoldable pub no_term : Now → Part → Bool
no_term now (flags f) = false
no_term now (handle h) = false
no_term now (term t) = not (is_term now t)

-- 7: a term named is not held
unfoldable pub not_held : (ℕ → Bool) → Part → Bool
not_held held (flags f) = false
not_held held (handle h) = false
not_held held (term t) = not (held t)

-- 5: the policy does not grant this flag byte. 10: a new handle is needed. Two commands make a handle, by a template
pub data Template : Type 0 where
  no_handle : Template
  template : Making → (flags : ℕ) → Template

unfoldable pub asks_for : Command → Template
asks_for (GENERATE f) = template by_generate f
asks_for (WRAP a b) = no_handle
asks_for (UNWRAP h t f) = template by_unwrap f
asks_for (ENCRYPT h t) = no_handle
asks_for (DECRYPT h t) = no_handle
asks_for (CORRUPT h) = no_handle
asks_for (DESTROY h) = no_handle
asks_for OWN_KEY = no_handle
asks_for OWN_DATA = no_handle
asks_for (SEAL k t) = no_handle

unfoldable pub not_granted : Policy → Template → Bool
not_granted p no_handle = false
not_granted p (template making f) = not (grants (templates p making) f)

unfoldable pub needs_handle : Template → Bool
needs_handle no_handle = false
needs_handle (template making f) = true

-- 6: a flag the command needs is missing. Which flag, on which handle:
pub data Need : Type 0 where
  ◌on◌ : Flag → (h : ℕ) → Need

infix 75 ◌on◌
unfoldable pub needs : Now → Command → List Need
needs now (GENERATE f) = []
needs now (WRAP a b) = W on a ∷ X on b ∷ cond (has N (flags_of (slot now b))) (T on a ∷ []) []
needs now (UNWRAP h t f) = U on h ∷ []
needs now (ENCRYPT h t) = E on h ∷ []
needs now (DECRYPT h t) = D on h ∷ []
needs now (CORRUPT h) = []
needs now (DESTROY h) = []
needs now OWN_KEY = []
needs now OWN_DATA = []
needs now (SEAL k t) = []

unfoldable pub missing : Now → Need → Bool
missing now (flag on h) = not (has flag (flags_of (slot now h)))

-- 8: wrong kind of term: UNWRAP not a key sealed under this key; DECRYPT not sealed under this key; SEAL's first term not a key
unfoldable pub sealed_under : ℕ → Term → Bool
sealed_under k (item n) = false
sealed_under k (key j) = false
sealed_under k (seal j m) = eqb j k

unfoldable pub wrong_kind : Now → Command → Bool
wrong_kind now (GENERATE f) = false
wrong_kind now (WRAP a b) = false
wrong_kind now (UNWRAP h t f) = not (sealed_under (key_of_slot (slot now h)) (term_at now t) && is_key (payload (term_at now t)))
wrong_kind now (ENCRYPT h t) = false
wrong_kind now (DECRYPT h t) = not (sealed_under (key_of_slot (slot now h)) (term_at now t))
wrong_kind now (CORRUPT h) = false
wrong_kind now (DESTROY h) = false
wrong_kind now OWN_KEY = false
wrong_kind now OWN_DATA = false
wrong_kind now (SEAL k t) = not (is_key (term_at now k))

-- 9: STP+ ENCRYPT of a term that is a key
unfoldable pub no_keys_encrypted : Policy → Bool
no_keys_encrypted plain = false
no_keys_encrypted stp = false
no_keys_encrypted stp+ = true

unfoldable pub encrypts_key : Now → Command → Bool
encrypts_key now (GENERATE f) = false
encrypts_key now (WRAP a b) = false
encrypts_key now (UNWRAP h t f) = false
encrypts_key now (ENCRYPT h t) = is_key (term_at now t)
encrypts_key now (DECRYPT h t) = false
encrypts_key now (CORRUPT h) = false
encrypts_key now (DESTROY h) = false
encrypts_key now OWN_KEY = false
encrypts_key now OWN_DATA = false
encrypts_key now (SEAL k t) = false

-- 11: a new term is needed: a change enters one whose equal is not in the table
unfoldable pub enters_new : Now → Change → Bool
enters_new now (enters m) = not (listed now.table m)
enters_new now (binds h s) = false
enters_new now (counts_key o) = false
enters_new now counts_item = false
enters_new now (owns m) = false
enters_new now (gives m) = false
enters_new now (corrupts k) = false
enters_new now (wraps link) = false
enters_new now (bears birth) = false

pub data Refusal : Type 0 where
  ◌if◌ : (answer : ℕ) (test : Bool) → Refusal

infix 30 ◌if◌
-- the table "What is answered", 2 to 11; `held t` tells whether term number t is held
unfoldable pub refusals : Policy → (held : ℕ → Bool) → Now → Command → List Refusal
refusals p held now c =
    (2 if some_of bad_flags (body c))
    ∷ (3 if some_of (not_live now) (body c))
    ∷ (4 if some_of (no_term now) (body c))
    ∷ (5 if not_granted p (asks_for c))
    ∷ (6 if some_of (missing now) (needs now c))
    ∷ (7 if some_of (not_held held) (body c))
    ∷ (8 if wrong_kind now c)
    ∷ (9 if no_keys_encrypted p && encrypts_key now c)
    ∷ (10 if needs_handle (asks_for c) && all_live now)
    ∷ (11 if table_full now && some_of (enters_new now) (all_changes now c))
    ∷ []

-- the first that applies, and 0 where none does
unfoldable pub first : List Refusal → ℕ
first [] = 0
first ((n if test) ∷ list) = cond test n (first list)
