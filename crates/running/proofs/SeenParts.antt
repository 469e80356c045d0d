-- What is asked of a slot or an entry is what the rules ask of the handle or the term that it stands beside: case by case, of a
-- handle dead or live, and of a place of the table with a term or past its end. Rests on the definitions alone.
use Rattle.shapes.specs.declared.Slot.{Slot}
use Rattle.std.specs.Prelude.{None, Option, Some}
use Prim.Native.Nat.{ℕ, zero, suc}
use mathlib.Core.Path.{◌≡◌, refl, ap, ◌∙◌}
use mathlib.Core.Bool.{Bool, true, false, not, true≢false, false≢true}
use mathlib.Core.List.{[], ◌∷◌}
use mathlib.Core.Option.{Option as Maybe, none, some}
use lib.Dec.{ltb, leb-zero, leb-suc-zero, leb-suc-suc}
use lib.ListN.{length, get_or, get_elem?}
use Rattle.terms.specs.Terms.{Term, Table, item, key, seal, number_of}
use Rattle.terms.specs.Following.{held_by_following}
use Rattle.rules.specs.State.{State, dead, live, is_live, key_of_slot, flags_of, is_key, key_number, payload}
use Rattle.rules.specs.State.{Slot as Hand}
use Rattle.rules.specs.Refusals.{sealed_under}
use Rattle.rules.specs.Computing.{judged}
use Rattle.shapes.specs.declared.Entry.{Entry}
use Rattle.token.specs.Shows.{entry_for, slot_for}
use Rattle.shapes.specs.Entries.{is_key_kind, key_of, is_sealed_under, payload_no, is_held}
use Rattle.deciding.specs.Decisions.{is_dead, slot_in, is_missing, entry_in}
use Rattle.std.specs.Bool.{then_some}
use Rattle.running.proofs.ChangeFor.{held_in}

-- the handle that is seen for a handle of the state
unfoldable pub handle_for : Table → Hand → Option Slot
handle_for table dead = None
handle_for table (live k f) = Some (slot_for table (live k f))

-- what is asked of a handle that is seen
pub seen_dead : (table : Table) (x : Hand) → is_dead (handle_for table x) ≡ not (is_live x)
unfolding handle_for is_live
seen_dead table dead = refl
seen_dead table (live k f) = refl

pub seen_flags : (table : Table) (x : Hand) → (slot_in (handle_for table x)).flags ≡ flags_of x
unfolding handle_for flags_of slot_for
seen_flags table dead = refl
seen_flags table (live k f) = refl

pub seen_key : (table : Table) (x : Hand) → (slot_in (handle_for table x)).key ≡ record { 0 = key_of_slot x }
unfolding handle_for key_of_slot slot_for
seen_key table dead = refl
seen_key table (live k f) = refl

pub seen_term : (table : Table) (x : Hand) → is_live x ≡ true →
    (slot_in (handle_for table x)).term ≡ record { 0 = number_of table (key (key_of_slot x)) }
unfolding handle_for key_of_slot slot_for is_live
seen_term table dead e = absurd (false≢true e)
seen_term table (live k f) e = refl

-- and of a slot
pub slot_key : (table : Table) (x : Hand) → (slot_for table x).key ≡ record { 0 = key_of_slot x }
unfolding key_of_slot slot_for
slot_key table dead = refl
slot_key table (live k f) = refl

pub slot_term : (table : Table) (x : Hand) → is_live x ≡ true →
    (slot_for table x).term ≡ record { 0 = number_of table (key (key_of_slot x)) }
unfolding key_of_slot slot_for is_live
slot_term table dead e = absurd (false≢true e)
slot_term table (live k f) e = refl

-- a handle is seen as it stands in the state
pub handle_in_lem : (table : Table) (x : Hand) → then_some (is_live x) (slot_for table x) ≡ handle_for table x
unfolding handle_for is_live
handle_in_lem table dead = refl
handle_in_lem table (live k f) = refl

-- the term at a place of the table, an item past its end
unfoldable pub or_item : Maybe Term → Term
or_item none = item 0
or_item (some m) = m

pub get_d_or : (table : Table) (n : ℕ) → get_or table n (item 0) ≡ or_item (get_elem? table n)
unfolding or_item
get_d_or [] n = refl
get_d_or (m ∷ table) zero = refl
get_d_or (m ∷ table) (suc n) = get_d_or table n

-- the term that is seen for a place of the table
unfoldable pub lookup_for : State → Maybe Term → Option Entry
lookup_for s none = None
lookup_for s (some m) = Some (entry_for s (some m))

-- whether there is a term at the place
unfoldable pub is_there : Maybe Term → Bool
is_there none = false
is_there (some m) = true

pub below_there : (table : Table) (n : ℕ) → ltb n (length table) ≡ is_there (get_elem? table n)
unfolding is_there
below_there [] n = leb-suc-zero n
below_there (m ∷ table) zero = leb-suc-suc 0 (length table) ∙ leb-zero (length table)
below_there (m ∷ table) (suc n) = leb-suc-suc (suc n) (length table) ∙ below_there table n

-- what is asked of a term that is seen
pub seen_there : (s : State) (x : Maybe Term) → is_missing (lookup_for s x) ≡ not (is_there x)
unfolding lookup_for is_there
seen_there s none = refl
seen_there s (some m) = refl

pub seen_entry : (s : State) (x : Maybe Term) → entry_in (lookup_for s x) ≡ entry_for s x
unfolding lookup_for entry_for
seen_entry s none = refl
seen_entry s (some m) = refl

-- a lookup sees the term of the place, where the entry that is read there is the term's
pub lookup_in_lem : (s : State) (x : Maybe Term) (e : Entry) (b : Bool) → b ≡ is_there x → (b ≡ true → e ≡ entry_for s x) →
    then_some b e ≡ lookup_for s x
unfolding lookup_for is_there
lookup_in_lem s none e true q same = absurd (true≢false q)
lookup_in_lem s none e false q same = refl
lookup_in_lem s (some m) e true q same = ap Some (same refl)
lookup_in_lem s (some m) e false q same = absurd (false≢true q)

-- what is asked of an entry: is its term held, is it a key and which, is it sealed under a key
pub entry_held : (s : State) (m : Term) → is_held (entry_for s (some m)) ≡ held_in s m
unfolding entry_for held_in held_by_following
entry_held s (item n) = refl
entry_held s (key k) = refl
entry_held s (seal k m) = refl

pub entry_judged : (s : State) (x : Maybe Term) → is_held (entry_for s x) ≡ judged s x
unfolding entry_for judged held_by_following
entry_judged s none = refl
entry_judged s (some (item n)) = refl
entry_judged s (some (key k)) = refl
entry_judged s (some (seal k m)) = refl

pub entry_is_key : (s : State) (x : Maybe Term) → is_key_kind (entry_for s x).term ≡ is_key (or_item x)
unfolding entry_for is_key or_item
entry_is_key s none = refl
entry_is_key s (some (item n)) = refl
entry_is_key s (some (key k)) = refl
entry_is_key s (some (seal k m)) = refl

pub entry_key : (s : State) (x : Maybe Term) → key_of (entry_for s x).term ≡ record { 0 = key_number (or_item x) }
unfolding entry_for key_number or_item
entry_key s none = refl
entry_key s (some (item n)) = refl
entry_key s (some (key k)) = refl
entry_key s (some (seal k m)) = refl

pub entry_under : (s : State) (k : ℕ) (x : Maybe Term) →
    is_sealed_under (record { 0 = k }) (entry_for s x).term ≡ sealed_under k (or_item x)
unfolding entry_for sealed_under or_item
entry_under s k none = refl
entry_under s k (some (item n)) = refl
entry_under s k (some (key j)) = refl
entry_under s k (some (seal j m)) = refl

pub entry_payload : (s : State) (k : ℕ) (x : Maybe Term) → sealed_under k (or_item x) ≡ true →
    payload_no (entry_for s x).term ≡ record { 0 = number_of s.now.table (payload (or_item x)) }
unfolding entry_for sealed_under or_item payload
entry_payload s k none e = absurd (false≢true e)
entry_payload s k (some (item n)) e = absurd (false≢true e)
entry_payload s k (some (key j)) e = absurd (false≢true e)
entry_payload s k (some (seal j m)) e = refl

-- a place with a sealed term has a term
pub sealed_is_there : (k : ℕ) (x : Maybe Term) → sealed_under k (or_item x) ≡ true → is_there x ≡ true
unfolding sealed_under or_item is_there
sealed_is_there k none e = absurd (false≢true e)
sealed_is_there k (some m) e = refl
