-- A change made by stores is the change applied: where a change leaves the slots or the entries as they are, what was read there is
-- stored back, and they are the same. And what a new seal leaks can be followed once the seal is entered and linked. Rests on
-- specs/Stores.antt and specs/Applied.antt.
use Prim.Native.Nat.{ℕ, ◌<◌}
use mathlib.Core.Path.{◌≡◌, refl, sym, ap, subst}
use mathlib.Core.Bool.{Bool, true, false}
use mathlib.Core.List.{List}
use native.Mathlib.Omega.{arith}
use lib.ListN.{get_or, set}
use lib.Seq.{set-get_or}
use Rattle.shapes.specs.declared.KeyNo.{KeyNo}
use Rattle.shapes.specs.declared.TermNo.{TermNo}
use Rattle.shapes.specs.declared.Entry.{Entry}
use Rattle.shapes.specs.declared.Slot.{Slot}
use Rattle.deciding.specs.declared.Change.{Change}
use Rattle.deciding.specs.declared.Change.TheVariants.{Nothing, Bind, Release, NewKey, OwnKey, OwnData, NewSeal, Know}
use Rattle.rules.specs.State.{most_terms}
use Rattle.token.specs.declared.Table.{Table}
use Rattle.token.specs.declared.Links.{Links}
use Rattle.token.specs.declared.Hands.{Hands}
use Rattle.token.specs.declared.Token.{Token}
use Rattle.token.specs.Shows.{blank_entry, blank_slot}
use Rattle.running.specs.Stores.{SlotPut, EntryPut, Leak, Of, No, HandPut, SlotStored, entry_stored, Linkable, links_stored, leak_of}
use Rattle.running.specs.Applied.{SlotSet, TableFollowed, LeakFollowable, Applied, Applicable, appended, linked, seal_entry}

-- the hands and the table after the stores
abbrev pub stored_hands : Hands → SlotPut → Hands
stored_hands hands put = record { slots = set hands.slots put.number.0 put.slot; live = put.live }

abbrev pub stored_table : Table → EntryPut → Table
stored_table table put = record { entries = set table.entries put.at put.entry; terms = put.terms; keys = put.keys }

-- what a command reads of a handle, and of a term
abbrev pub ReadSlot : Hands → (h : ℕ) → Slot → Type 0
ReadSlot hands h slot = slot ≡ get_or hands.slots h blank_slot

abbrev pub ReadEntry : Table → (at : ℕ) → Entry → Type 0
ReadEntry table at e = e ≡ get_or table.entries at blank_entry

module _ (t : Token) (h : ℕ) {slot : Slot} (read : ReadSlot t.hands h slot) where
  -- the slot that was read, stored back
  hands_back : (put : SlotPut) → put ≡ record { number = record { 0 = h }; slot = slot; live = t.hands.live }
      → stored_hands t.hands put ≡ t.hands
  hands_back put e =
      rw (e, read) (ap (λ (l : List Slot). record { slots = l; live = t.hands.live }) (set-get_or t.hands.slots h blank_slot))

module _ (t : Token) (at : ℕ) {e : Entry} (read : ReadEntry t.table at e) where
  -- the entry that was read, stored back
  table_back : (put : EntryPut) → put ≡ record { at = at; entry = e; terms = t.table.terms; keys = t.table.keys }
      → stored_table t.table put ≡ t.table
  table_back put same =
      rw (same, read)
      (ap (λ (l : List Entry). record { entries = l; terms = t.table.terms; keys = t.table.keys })
      (set-get_or t.table.entries at blank_entry))

-- a slot stored
hands_set : (t : Token) {g : ℕ} {s : Slot} {to : Bool} (put : SlotPut) → HandPut t.hands.live g s to put
    → SlotSet t.hands g s to (stored_hands t.hands put)
hands_set t put e =
    record { slots_set = rw (e.of_number, e.of_slot) refl; live_set = e.of_live }

-- not a seal, not a key that becomes known
abbrev pub NoSeal : Change → Type 0
NoSeal change = (k : KeyNo) (p : TermNo) (leaks : Bool) → change ≡ NewSeal k p leaks → ⊥

abbrev pub NotKnown : Change → Type 0
NotKnown change = (p : TermNo) → change ≡ Know p → ⊥

-- then the links stay as they are, and there is no leak
pub links_kept : (change : Change) → NoSeal change → (links : Links) (terms : ℕ) → links ≡ links_stored change links terms
unfolding links_stored
links_kept Nothing a links terms = refl
links_kept (Bind n x) a links terms = refl
links_kept (Release n) a links terms = refl
links_kept (NewKey n f) a links terms = refl
links_kept OwnKey a links terms = refl
links_kept OwnData a links terms = refl
links_kept (NewSeal k p leaks) a links terms = absurd (a k p leaks refl)
links_kept (Know p) a links terms = refl

pub leak_none : (change : Change) → NoSeal change → NotKnown change → No ≡ leak_of change
unfolding leak_of
leak_none Nothing a b = refl
leak_none (Bind n x) a b = refl
leak_none (Release n) a b = refl
leak_none (NewKey n f) a b = refl
leak_none OwnKey a b = refl
leak_none OwnData a b = refl
leak_none (NewSeal k p leaks) a b = absurd (a k p leaks refl)
leak_none (Know p) a b = absurd (b p refl)

-- there is room to link what is appended
pub linkable : (t : Token) (change : Change) → Applicable t change → Linkable change t.table.terms
linkable t Nothing room = tt
linkable t (Bind n x) room = tt
linkable t (Release n) room = tt
linkable t (NewKey n f) room = tt
linkable t OwnKey room = tt
linkable t OwnData room = tt
linkable t (NewSeal k p leaks) room = (room.for_term.few_terms, room.key_inside)
linkable t (Know p) room = tt

-- a leak is of one term, or there is none
abbrev leaking : TermNo → Leak → TermNo
leaking q (Of p) = p
leaking q No = q

abbrev leak_count : Leak → ℕ
leak_count (Of p) = 1
leak_count No = 0

same_leak : {p q : TermNo} → Of q ≡ Of p → q ≡ p
same_leak {p} {q} e = ap (leaking q) e

no_leak : {p : TermNo} → No ≡ Of p → ⊥
no_leak e = let z : ◌≡◌ {A = ℕ} 0 1 = ap leak_count e in omega (arith, z)

-- the leak that can be followed, and the one that is, in other words
can_follow : {table same : Table} → table ≡ same → {links others : Links} → links ≡ others → {p q : TermNo} → q ≡ p
    → LeakFollowable true same others q.0 → LeakFollowable true table links p.0
can_follow {table} {same} e {links} {others} b {p} {q} f room =
    subst (λ (x : Table). LeakFollowable true x links p.0) (sym e)
    (subst (λ (x : Links). LeakFollowable true same x p.0) (sym b)
    (subst (λ (x : TermNo). LeakFollowable true same others x.0) f room))

of_leak : {table same : Table} → table ≡ same → {p q : TermNo} → q ≡ p → {followed : Table} → TableFollowed table p.0 followed
    → TableFollowed same q.0 followed
of_leak {table} {same} e {p} {q} f {followed} follow =
    subst (λ (x : Table). TableFollowed x q.0 followed) e
    (subst (λ (x : TermNo). TableFollowed table x.0 followed) (sym f) follow)

-- the entry goes to a place of the table
pub stored_inside : (t : Token) (at : ℕ) (e : Entry) (grown : EntryPut) (change : Change) → Applicable t change → at < most_terms
    → grown ≡ entry_stored change at e t.table.terms t.table.keys
    → grown.at < most_terms
unfolding entry_stored
stored_inside t at e grown Nothing room h same = rw same h
stored_inside t at e grown (Bind n x) room h same = rw same h
stored_inside t at e grown (Release n) room h same = rw same h
stored_inside t at e grown (NewKey n f) room h same = rw same room.for_term.few_terms
stored_inside t at e grown OwnKey room h same = rw same room.few_terms
stored_inside t at e grown OwnData room h same = rw same room.few_terms
stored_inside t at e grown (NewSeal k p leaks) room h same = rw same room.for_term.few_terms
stored_inside t at e grown (Know p) room h same = rw same h

module _ (t : Token) (h : ℕ) {slot : Slot} (read_slot : ReadSlot t.hands h slot) (at : ℕ) {e : Entry}
    (read_entry : ReadEntry t.table at e) (put : SlotPut) (grown : EntryPut) where
  -- what is known of the two stores
  abbrev Puts : Change → Type 0
  Puts change =
      SlotStored change t.hands.live h slot t.table.terms t.table.keys put
      × (grown ≡ entry_stored change at e t.table.terms t.table.keys)

  -- the change made, where nothing leaks
  pub stored_applied : (change : Change) → Puts change → {links : Links} → links ≡ links_stored change t.links t.table.terms
      → leak_of change ≡ No
      → Applied t change (record { table = stored_table t.table grown; links = links; hands = stored_hands t.hands put })
  unfolding Applied entry_stored links_stored leak_of
  stored_applied Nothing (s, g) bound none = rw (table_back t at read_entry grown g, hands_back t h read_slot put s, bound) refl
  stored_applied (Bind n x) (s, g) bound none =
      record { of_table = table_back t at read_entry grown g; of_links = bound; of_hands = hands_set t put s }
  stored_applied (Release n) (s, g) bound none =
      record { of_table = table_back t at read_entry grown g; of_links = bound; of_hands = hands_set t put s }
  stored_applied (NewKey n f) (s, g) bound none =
      record { of_table = ap (stored_table t.table) g; of_links = bound; of_hands = hands_set t put s }
  stored_applied OwnKey (s, g) bound none =
      record { of_table = ap (stored_table t.table) g; of_links = bound; of_hands = hands_back t h read_slot put s }
  stored_applied OwnData (s, g) bound none =
      record { of_table = ap (stored_table t.table) g; of_links = bound; of_hands = hands_back t h read_slot put s }
  stored_applied (NewSeal k p true) (s, g) bound none = absurd (no_leak (sym none))
  stored_applied (NewSeal k p false) (s, g) bound none =
      record { of_table = ap (stored_table t.table) g; of_links = bound; of_hands = hands_back t h read_slot put s }
  stored_applied (Know p) (s, g) bound none = absurd (no_leak (sym none))

  -- where term p leaks: its leak can be followed, and the change is made by that
  module _ {p : TermNo} {links : Links} where
    pub stored_followable : (change : Change) → Puts change → links ≡ links_stored change t.links t.table.terms
        → leak_of change ≡ Of p → Applicable t change → LeakFollowable true (stored_table t.table grown) links p.0
    unfolding entry_stored links_stored leak_of
    stored_followable Nothing (s, g) bound leak room = absurd (no_leak leak)
    stored_followable (Bind n x) (s, g) bound leak room = absurd (no_leak leak)
    stored_followable (Release n) (s, g) bound leak room = absurd (no_leak leak)
    stored_followable (NewKey n f) (s, g) bound leak room = absurd (no_leak leak)
    stored_followable OwnKey (s, g) bound leak room = absurd (no_leak leak)
    stored_followable OwnData (s, g) bound leak room = absurd (no_leak leak)
    stored_followable (NewSeal k q true) (s, g) bound leak room =
        can_follow (ap (stored_table t.table) g) bound (same_leak leak) room.followable
    stored_followable (NewSeal k q false) (s, g) bound leak room = absurd (no_leak leak)
    stored_followable (Know q) (s, g) bound leak room =
        can_follow (table_back t at read_entry grown g) bound (same_leak leak) room.followable

    pub stored_followed : (change : Change) → Puts change → links ≡ links_stored change t.links t.table.terms
        → leak_of change ≡ Of p → {followed : Table} → TableFollowed (stored_table t.table grown) p.0 followed
        → Applied t change (record { table = followed; links = links; hands = stored_hands t.hands put })
    unfolding Applied entry_stored links_stored leak_of
    stored_followed Nothing (s, g) bound leak follow = absurd (no_leak leak)
    stored_followed (Bind n x) (s, g) bound leak follow = absurd (no_leak leak)
    stored_followed (Release n) (s, g) bound leak follow = absurd (no_leak leak)
    stored_followed (NewKey n f) (s, g) bound leak follow = absurd (no_leak leak)
    stored_followed OwnKey (s, g) bound leak follow = absurd (no_leak leak)
    stored_followed OwnData (s, g) bound leak follow = absurd (no_leak leak)
    stored_followed (NewSeal k q true) (s, g) bound leak {followed} follow =
        record {
          of_table = of_leak (ap (stored_table t.table) g) (same_leak leak) follow;
          of_links = bound;
          of_hands = hands_back t h read_slot put s;
        }
    stored_followed (NewSeal k q false) (s, g) bound leak follow = absurd (no_leak leak)
    stored_followed (Know q) (s, g) bound leak {followed} follow =
        record {
          of_table = of_leak (table_back t at read_entry grown g) (same_leak leak) follow;
          of_links = bound;
          of_hands = hands_back t h read_slot put s;
        }

-- what a new seal leaks can be followed, once the seal is entered and linked
pub seal_followable : (t : Token) {change : Change} {k : KeyNo} {p : TermNo} {leaks : Bool} → Applicable t change
    → change ≡ NewSeal k p leaks
    → leaks ≡ true
    → {table : Table} → table ≡ appended t.table (seal_entry k p)
    → {links : Links} → links ≡ linked t.links t.table.terms k.0 p.0
    → LeakFollowable true table links p.0
seal_followable t {k = k} {p} room is leak {table} entered {links} bound =
    let r = subst (Applicable t) is room in
    let f = subst (λ (b : Bool). LeakFollowable b (appended t.table (seal_entry k p)) (linked t.links t.table.terms k.0 p.0) p.0) leak r.followable in
    rw (entered, bound) f
