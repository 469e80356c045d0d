-- A change as stores: which slot and which entry are stored, and what the counts and the live words become. Where a change leaves
-- the slots or the entries as they are, what the command read is stored back. The code makes a change part by part (Applied); that stores
-- alone make the same is a theorem (proofs/Stored.antt). Assumes nothing.
use Rattle.std.specs.Prelude.{ℕ, suc, ◌<◌, ◌≡◌, Bool, true, false, cond, List}
use Rattle.shapes.specs.declared.Entry.{Entry}
use Rattle.shapes.specs.declared.Slot.{Slot}
use Rattle.deciding.specs.declared.Change.{Change}
use Rattle.deciding.specs.declared.Change.TheVariants.{Nothing, Bind, Release, NewKey, OwnKey, OwnData, NewSeal, Know}
use Rattle.shapes.specs.declared.Term.TheVariants.{Data, Key, Seal}
use Rattle.shapes.specs.declared.TermNo.{TermNo}
use Rattle.shapes.specs.declared.HandleNo.{HandleNo}
use Rattle.rules.specs.State.{most_terms}
use Rattle.token.specs.declared.Links.{Links}
use Rattle.running.specs.Applied.{linked}
use Rattle.handles.specs.Live.{BitSet}
use Rattle.token.specs.Shows.{blank_slot, entry}

-- the slot that a change stores, and the live words that it leaves
pub record SlotPut : Type 0 where
  pub number : HandleNo
  pub slot : Slot
  pub live : List ℕ

-- the entry that a change stores, and the counts that it leaves
pub record EntryPut : Type 0 where
  pub at : ℕ
  pub entry : Entry
  pub terms : ℕ
  pub keys : ℕ

-- the term whose leak is to be followed
pub data Leak : Type 0 where
  Of : TermNo → Leak
  No : Leak

-- slot h is stored, and h is live, or not
pub record HandPut (live : List ℕ) (h : ℕ) (slot : Slot) (to : Bool) (r : SlotPut) : Type 0 where
  pub of_number : r.number.0 ≡ h
  pub of_slot : r.slot ≡ slot
  pub of_live : BitSet live h to r.live

-- the slot of a key that is generated now
abbrev pub made_slot : (terms keys flags : ℕ) → Slot
made_slot terms keys flags = record { key = record { 0 = keys }; term = record { 0 = terms }; flags = flags }

abbrev pub SlotStored : Change → (live : List ℕ) (h : ℕ) (slot : Slot) (terms keys : ℕ) → SlotPut → Type 0
SlotStored Nothing live h slot terms keys r = r ≡ record { number = record { 0 = h }; slot = slot; live = live }
SlotStored (Bind g s) live h slot terms keys r = HandPut live g.0 s true r
SlotStored (Release g) live h slot terms keys r = HandPut live g.0 blank_slot false r
SlotStored (NewKey g flags) live h slot terms keys r = HandPut live g.0 (made_slot terms keys flags) true r
SlotStored OwnKey live h slot terms keys r = r ≡ record { number = record { 0 = h }; slot = slot; live = live }
SlotStored OwnData live h slot terms keys r = r ≡ record { number = record { 0 = h }; slot = slot; live = live }
SlotStored (NewSeal k p leaks) live h slot terms keys r = r ≡ record { number = record { 0 = h }; slot = slot; live = live }
SlotStored (Know p) live h slot terms keys r = r ≡ record { number = record { 0 = h }; slot = slot; live = live }

-- the entry that is stored, and the counts
unfoldable pub entry_stored : Change → (at : ℕ) → Entry → (terms keys : ℕ) → EntryPut
entry_stored Nothing at e terms keys = record { at = at; entry = e; terms = terms; keys = keys }
entry_stored (Bind h slot) at e terms keys = record { at = at; entry = e; terms = terms; keys = keys }
entry_stored (Release h) at e terms keys = record { at = at; entry = e; terms = terms; keys = keys }
entry_stored (NewKey h flags) at e terms keys =
    record { at = terms; entry = entry (Key (record { 0 = keys })) false false; terms = suc terms; keys = suc keys }
entry_stored OwnKey at e terms keys =
    record { at = terms; entry = entry (Key (record { 0 = keys })) true true; terms = suc terms; keys = suc keys }
entry_stored OwnData at e terms keys = record { at = terms; entry = entry Data true true; terms = suc terms; keys = keys }
entry_stored (NewSeal k p leaks) at e terms keys =
    record { at = terms; entry = entry (Seal k p) true false; terms = suc terms; keys = keys }
entry_stored (Know p) at e terms keys = record { at = at; entry = e; terms = terms; keys = keys }

-- the links, where a seal is appended
abbrev pub Linkable : Change → (terms : ℕ) → Type 0
Linkable Nothing terms = Unit {0}
Linkable (Bind h slot) terms = Unit {0}
Linkable (Release h) terms = Unit {0}
Linkable (NewKey h flags) terms = Unit {0}
Linkable OwnKey terms = Unit {0}
Linkable OwnData terms = Unit {0}
Linkable (NewSeal k p leaks) terms = (terms < most_terms) × (k.0 < most_terms)
Linkable (Know p) terms = Unit {0}

unfoldable pub links_stored : Change → Links → (terms : ℕ) → Links
links_stored Nothing links terms = links
links_stored (Bind h slot) links terms = links
links_stored (Release h) links terms = links
links_stored (NewKey h flags) links terms = links
links_stored OwnKey links terms = links
links_stored OwnData links terms = links
links_stored (NewSeal k p leaks) links terms = linked links terms k.0 p.0
links_stored (Know p) links terms = links

-- the term whose leak the change leads to
unfoldable pub leak_of : Change → Leak
leak_of Nothing = No
leak_of (Bind h slot) = No
leak_of (Release h) = No
leak_of (NewKey h flags) = No
leak_of OwnKey = No
leak_of OwnData = No
leak_of (NewSeal k p leaks) = cond leaks (Of p) No
leak_of (Know p) = Of p
