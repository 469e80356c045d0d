-- What several commands ask and answer, on what is seen in a state: a handle or a term that is named, room for a term that may be
-- in the table, the number of a term that is given, and a key that leaks by being given. Rests on Seen and SeenSeals.
use Prim.Native.Nat.{ℕ}
use mathlib.Core.Path.{◌≡◌, sym, ◌∙◌}
use mathlib.Core.Bool.{true, false, not, ◌&&◌, ◌||◌, cond, and-false, or-false}
use mathlib.Core.Option.{some}
use lib.Dec.{leb}
use lib.ListN.{length}
use borrow.Author.Tests.{not-false}
use Rattle.shapes.specs.Entries.{is_held}
use Rattle.terms.specs.Lists.{◌∈◌}
use Rattle.terms.specs.Terms.{Term, Table, listed, number_of, enter}
use Rattle.terms.proofs.Lists.{bool_cases}
use Rattle.terms.proofs.Terms.{enter_listed, enter_new, in_listed, listed_true, number_new}
use Rattle.rules.specs.Flags.{Flag, has}
use Rattle.rules.specs.State.{State, Now, Slot, slot, is_live, flags_of, is_term, table_full, most_terms}
use Rattle.rules.specs.Computing.{judge}
use Rattle.rules.proofs.Named.{neither}
use Rattle.deciding.specs.declared.Change.{Change}
use Rattle.deciding.specs.declared.Change.TheVariants.{Nothing}
use Rattle.token.specs.Shows.{entry_for}
use Rattle.deciding.specs.Decisions.{is_dead, slot_in, is_missing, entry_in, is_new, seal_number, seal_change, learning}
use Rattle.running.proofs.ChangeFor.{gift_change}
use Rattle.running.proofs.SeenParts.{seen_dead, seen_flags, or_item, entry_held, entry_is_key}
use Rattle.running.proofs.Seen.{handle_of, lookup_of, missing_seen, lookup_entry, held_seen}
use Rattle.running.proofs.SeenSeals.{equal_for}

-- a handle that is named alone is asked whether it is live
pub dead_asked : (s : State) (h : ℕ) → is_dead (handle_of s h) ≡ (not (is_live (slot s.now h)) || false)
dead_asked s h = seen_dead s.now.table (slot s.now h) ∙ sym (or-false _)

-- and where it is not refused it is
pub alive : (x : Slot) → (not (is_live x) || false) ≡ false → is_live x ≡ true
alive x e = not-false _ (neither (not (is_live x)) false e).0

-- so of two handles
pub either_dead_asked : (s : State) (a b : ℕ) →
    (is_dead (handle_of s a) || is_dead (handle_of s b)) ≡
    (not (is_live (slot s.now a)) || (not (is_live (slot s.now b)) || false))
either_dead_asked s a b = rw (seen_dead s.now.table (slot s.now a), seen_dead s.now.table (slot s.now b), or-false)

pub both_alive : (x y : Slot) → (not (is_live x) || (not (is_live y) || false)) ≡ false → (is_live x ≡ true) × (is_live y ≡ true)
both_alive x y e =
    let parts = neither (not (is_live x)) (not (is_live y) || false) e in
    (not-false _ parts.0, alive y parts.1)

-- a flag that the command needs on a handle
pub flag_asked : (flag : Flag) (s : State) (h : ℕ) →
    not (has flag (slot_in (handle_of s h)).flags) ≡ (not (has flag (flags_of (slot s.now h))) || false)
flag_asked flag s h = rw (seen_flags s.now.table (slot s.now h)) (sym (or-false _))

-- a term that is named: is it there, and is it held
pub missing_asked : (s : State) (n : ℕ) →
    is_missing (lookup_of s n) ≡ (not (is_term s.now n) || false)
missing_asked s n = missing_seen s n ∙ sym (or-false _)

pub there : (now : Now) (n : ℕ) → (not (is_term now n) || false) ≡ false → is_term now n ≡ true
there now n e = not-false _ (neither (not (is_term now n)) false e).0

pub held_asked : (s : State) (n : ℕ) →
    not (is_held (entry_in (lookup_of s n))) ≡ (not (judge s n) || false)
held_asked s n = rw (lookup_entry s n, held_seen s n) (sym (or-false _))

-- so of two terms
pub either_missing_asked : (s : State) (n m : ℕ) →
    (is_missing (lookup_of s n) || is_missing (lookup_of s m)) ≡
    (not (is_term s.now n) || (not (is_term s.now m) || false))
either_missing_asked s n m = rw (missing_seen s n, missing_seen s m, or-false)

pub both_there : (now : Now) (n m : ℕ) → (not (is_term now n) || (not (is_term now m) || false)) ≡ false →
    (is_term now n ≡ true) × (is_term now m ≡ true)
both_there now n m e =
    let parts = neither (not (is_term now n)) (not (is_term now m) || false) e in
    (not-false _ parts.0, there now m parts.1)

pub either_held_asked : (s : State) (n m : ℕ) →
    (not (is_held (entry_in (lookup_of s n)))
    || not (is_held (entry_in (lookup_of s m)))) ≡
    (not (judge s n) || (not (judge s m) || false))
either_held_asked s n m = rw (lookup_entry s n, lookup_entry s m, held_seen s n, held_seen s m, or-false)

-- a term that is not in the table is not listed
pub not_listed : (table : Table) (m : Term) → ¬ (m ∈ table) → listed table m ≡ false
not_listed table m other = bool_cases (listed table m) (λ e. absurd (other (listed_true table m e))) (λ e. e)

-- a term of the table needs no room
pub no_room_asked : (now : Now) (m : Term) → m ∈ now.table → (table_full now && (not (listed now.table m) || false)) ≡ false
no_room_asked now m h = rw (in_listed h) (and-false (table_full now))

-- any other does where its equal is not seen
pub room_asked : (now : Now) (m : Term) →
    (leb most_terms (length now.table) && is_new (equal_for now.table m)) ≡
    (table_full now && (not (listed now.table m) || false))
unfolding table_full equal_for
room_asked now m =
    bool_cases (listed now.table m) (λ (e : listed now.table m ≡ true). rw e) (λ (e : listed now.table m ≡ false). rw e)

-- the number of a term of the table that is given, and of a term that was not there
pub number_given : {table : Table} {m : Term} → m ∈ table → number_of table m ≡ number_of (enter table m) m
number_given {table} {m} h = rw (enter_listed table m (in_listed h))

pub number_entered : (table : Table) (m : Term) → listed table m ≡ false → length table ≡ number_of (enter table m) m
number_entered table m e = rw (enter_new table m e) (sym (number_new table m e))

-- the number of a seal, which may have been there, and what changes by it
pub seal_number_lem : (table : Table) (m : Term) → seal_number (equal_for table m) (length table) ≡ number_of (enter table m) m
unfolding equal_for
seal_number_lem table m =
    bool_cases (listed table m) (λ (e : listed table m ≡ true). rw e (number_given (listed_true table m e)))
    (λ (e : listed table m ≡ false). rw e (number_entered table m e))

pub seal_changed : (table : Table) (m : Term) (change : Change) →
    seal_change (equal_for table m) change ≡ cond (listed table m) Nothing change
unfolding equal_for
seal_changed table m change =
    bool_cases (listed table m) (λ (e : listed table m ≡ true). rw e) (λ (e : listed table m ≡ false). rw e)

-- a key that is given and not held leaks
pub gift_changed : (s : State) (m : Term) →
    learning (record { 0 = number_of s.now.table m }) (entry_for s (some m)) ≡ gift_change s m
unfolding gift_change or_item
gift_changed s m = rw (entry_is_key s (some m), entry_held s m)
