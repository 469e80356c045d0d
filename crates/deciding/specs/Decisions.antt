-- What each command comes to on the small values that it sees (a View): the first refusal that applies, in document 01's order,
-- or the value and what changes. Each list of refusals is that command's part of `refusals` (crates/rules/specs/Refusals.antt);
-- that the two agree where the view is the state's is proved (crates/running/proofs/Decided.antt). Assumes nothing.
use Rattle.std.specs.Prelude.{ℕ, zero, suc, Bool, true, false, not, ◌&&◌, ◌||◌, cond, [], ◌∷◌, leb}
use Rattle.std.specs.Prelude.{Option, Some, None, Result, Ok, Err}
use Rattle.rules.specs.Flags.{W, U, E, D, X, N, T, has}
use Rattle.rules.specs.Templates.{Making, by_generate, by_unwrap, templates, grants}
use Rattle.rules.specs.Refusals.{◌if◌, first, no_keys_encrypted}
use Rattle.rules.specs.State.{most_terms}
use Rattle.sheets.specs.Reading.{read_policy}
use Rattle.shapes.specs.declared.TermNo.{TermNo}
use Rattle.shapes.specs.declared.HandleNo.{HandleNo}
use Rattle.shapes.specs.declared.Entry.{Entry}
use Rattle.shapes.specs.declared.Slot.{Slot}
use Rattle.deciding.specs.declared.View.{View}
use Rattle.deciding.specs.declared.Change.{Change}
use Rattle.deciding.specs.declared.Change.TheVariants.{Nothing, Bind, Release, NewKey, OwnKey as MakeOwnKey, OwnData as MakeOwnData, NewSeal, Know}
use Rattle.deciding.specs.declared.Done.{Done}
use Rattle.deciding.specs.declared.Refusal.{Refusal}
use Rattle.deciding.specs.declared.Refusal.TheVariants.{NotACall, HoldsTopBit, NotLive, NoTerm, NotGranted, FlagMissing, NotHeld, WrongKind, KeyEncrypted}
use Rattle.deciding.specs.declared.Refusal.TheVariants.{NoHandleLeft, NoTermLeft}
use Rattle.shapes.specs.declared.Command.{Command}
use Rattle.shapes.specs.declared.Command.TheVariants.{Generate, Wrap, Unwrap, Encrypt, Decrypt, Corrupt, Destroy, OwnKey, OwnData, Seal as SealTerm}
use Rattle.shapes.specs.Entries.{blank_entry, blank_slot, is_key_entry, key_of, is_sealed_under, payload_no, is_held}

-- what a command comes to: the answer, the value, and what changes
pub record Decision : Type 0 where
  pub answer : ℕ
  pub value : ℕ
  pub change : Change

-- a refusal has value 0 and changes nothing
abbrev pub refused_with : ℕ → Decision
refused_with n = record { answer = n; value = 0; change = Nothing }

abbrev pub done_with : ℕ → Change → Decision
done_with value change = record { answer = 0; value = value; change = change }

-- a refusal's number in the table of answers
abbrev pub number : Refusal → ℕ
number NotACall = 1
number HoldsTopBit = 2
number NotLive = 3
number NoTerm = 4
number NotGranted = 5
number FlagMissing = 6
number NotHeld = 7
number WrongKind = 8
number KeyEncrypted = 9
number NoHandleLeft = 10
number NoTermLeft = 11

-- the code's own answer, by case: done with its value and change, or refused
abbrev pub comes_to : Result Done Refusal → Decision
comes_to (Ok d) = done_with d.value d.change
comes_to (Err r) = refused_with (number r)

-- the decision where n is the first refusal that applies, 0 for none
abbrev pub decision : (first : ℕ) → ℕ → Change → Decision
decision zero value change = done_with value change
decision (suc n) value change = refused_with (suc n)

-- what is looked up: is it there, and what is it (a blank where it is not: nothing more is asked then)
abbrev pub is_dead : Option Slot → Bool
is_dead (Some slot) = false
is_dead None = true

abbrev pub slot_in : Option Slot → Slot
slot_in (Some slot) = slot
slot_in None = blank_slot

abbrev pub is_missing : Option Entry → Bool
is_missing (Some entry) = false
is_missing None = true

abbrev pub entry_in : Option Entry → Entry
entry_in (Some entry) = entry
entry_in None = blank_entry

abbrev pub is_full : Option HandleNo → Bool
is_full (Some h) = false
is_full None = true

abbrev pub free_handle : Option HandleNo → HandleNo
free_handle (Some h) = h
free_handle None = record { 0 = 0 }

abbrev pub is_new : Option TermNo → Bool
is_new (Some t) = false
is_new None = true

-- a number of the policy table
abbrev pub granted_by : (policy : ℕ) → Making → ℕ → Bool
granted_by policy making flags = grants (templates (read_policy policy) making) flags

-- one row of the table of commands each
abbrev pub decided_generate : (policy flags : ℕ) → Option HandleNo → (terms : ℕ) → Decision
decided_generate policy flags free terms =
    decision
    (first
    ((2 if leb 128 flags)
    ∷ (5 if not (granted_by policy by_generate flags))
    ∷ (10 if is_full free)
    ∷ (11 if leb most_terms terms)
    ∷ []))
    (free_handle free).0
    (NewKey (free_handle free) flags)

-- the seal's number: its equal's, or the next; and what changes where it is new
abbrev pub seal_number : Option TermNo → (terms : ℕ) → ℕ
seal_number (Some t) terms = t.0
seal_number None terms = terms

abbrev pub seal_change : Option TermNo → Change → Change
seal_change (Some t) change = Nothing
seal_change None change = change

-- WRAP leaks the inner key where the outer is held and the inner is not
abbrev pub decided_wrap : (a b : Option Slot) (outer inner : Entry) → Option TermNo → (terms : ℕ) → Decision
decided_wrap a b outer inner equal terms =
    decision
    (first
    ((3 if (is_dead a || is_dead b))
    ∷ (6 if (not (has W (slot_in a).flags)
    || not (has X (slot_in b).flags)
    || (has N (slot_in b).flags && not (has T (slot_in a).flags))))
    ∷ (11 if leb most_terms terms && is_new equal)
    ∷ []))
    (seal_number equal terms)
    (seal_change equal (NewSeal (slot_in a).key (slot_in b).term (is_held outer && not (is_held inner))))

abbrev pub decided_unwrap : (policy : ℕ) → Option Slot → Option Entry → (flags : ℕ) → (payload : Entry) → Option HandleNo → Decision
decided_unwrap policy h t flags payload free =
    decision
    (first
    ((2 if leb 128 flags)
    ∷ (3 if is_dead h)
    ∷ (4 if is_missing t)
    ∷ (5 if not (granted_by policy by_unwrap flags))
    ∷ (6 if not (has U (slot_in h).flags))
    ∷ (7 if not (is_held (entry_in t)))
    ∷ (8 if not (is_sealed_under (slot_in h).key (entry_in t).term && is_key_entry payload))
    ∷ (10 if is_full free)
    ∷ []))
    (free_handle free).0
    (Bind
    (free_handle free)
    (record { key = key_of payload.term; term = payload_no (entry_in t).term; flags = flags }))

abbrev pub decided_encrypt : (policy : ℕ) → Option Slot → Option Entry → TermNo → Option TermNo → (terms : ℕ) → Decision
decided_encrypt policy h t number equal terms =
    decision
    (first
    ((3 if is_dead h)
    ∷ (4 if is_missing t)
    ∷ (6 if not (has E (slot_in h).flags))
    ∷ (7 if not (is_held (entry_in t)))
    ∷ (9 if no_keys_encrypted (read_policy policy) && is_key_entry (entry_in t))
    ∷ (11 if leb most_terms terms && is_new equal)
    ∷ []))
    (seal_number equal terms)
    (seal_change equal (NewSeal (slot_in h).key number false))

-- a payload that is a key and not held leaks
abbrev pub learning : (number : TermNo) → Entry → Change
learning number e = cond (is_key_entry e && not (is_held e)) (Know number) Nothing

abbrev pub decided_decrypt : Option Slot → Option Entry → (payload : Entry) → Decision
decided_decrypt h t payload =
    decision
    (first
    ((3 if is_dead h)
    ∷ (4 if is_missing t)
    ∷ (6 if not (has D (slot_in h).flags))
    ∷ (7 if not (is_held (entry_in t)))
    ∷ (8 if not (is_sealed_under (slot_in h).key (entry_in t).term))
    ∷ []))
    (payload_no (entry_in t).term).0
    (learning (payload_no (entry_in t).term) payload)

abbrev pub decided_corrupt : Option Slot → (outer : Entry) → Decision
decided_corrupt h outer = decision (first ((3 if is_dead h) ∷ [])) (slot_in h).term.0 (learning (slot_in h).term outer)

abbrev pub decided_destroy : Option Slot → HandleNo → Decision
decided_destroy h number = decision (first ((3 if is_dead h) ∷ [])) number.0 (Release number)

abbrev pub decided_own_key : (terms : ℕ) → Decision
decided_own_key terms = decision (first ((11 if leb most_terms terms) ∷ [])) terms MakeOwnKey

abbrev pub decided_own_data : (terms : ℕ) → Decision
decided_own_data terms = decision (first ((11 if leb most_terms terms) ∷ [])) terms MakeOwnData

abbrev pub decided_seal : (k t : Option Entry) → TermNo → Option TermNo → (terms : ℕ) → Decision
decided_seal k t number equal terms =
    decision
    (first
    ((4 if (is_missing k || is_missing t))
    ∷ (7 if (not (is_held (entry_in k)) || not (is_held (entry_in t))))
    ∷ (8 if not (is_key_entry (entry_in k)))
    ∷ (11 if leb most_terms terms && is_new equal)
    ∷ []))
    (seal_number equal terms)
    (seal_change equal (NewSeal (key_of (entry_in k).term) number false))

unfoldable pub decided : (policy : ℕ) → Command → View → Decision
decided policy (Generate f) v = decided_generate policy f v.free v.terms
decided policy (Wrap a b) v = decided_wrap v.a v.b v.outer v.inner v.equal v.terms
decided policy (Unwrap h t f) v = decided_unwrap policy v.a v.t f v.payload v.free
decided policy (Encrypt h t) v = decided_encrypt policy v.a v.t t v.equal v.terms
decided policy (Decrypt h t) v = decided_decrypt v.a v.t v.payload
decided policy (Corrupt h) v = decided_corrupt v.a v.outer
decided policy (Destroy h) v = decided_destroy v.a h
decided policy OwnKey v = decided_own_key v.terms
decided policy OwnData v = decided_own_data v.terms
decided policy (SealTerm k t) v = decided_seal v.t v.u t v.equal v.terms
