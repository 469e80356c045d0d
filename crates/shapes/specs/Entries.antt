-- Entries and slots: those of which nothing is said (what stands past the counts, and in a dead handle's place), an entry by kind and
-- marks, and what an entry names. Assumes nothing.
use Rattle.std.specs.Prelude.{Bool, true, false, eqb}
use Rattle.shapes.specs.declared.KeyNo.{KeyNo}
use Rattle.shapes.specs.declared.TermNo.{TermNo}
use Rattle.shapes.specs.declared.Entry.{Entry}
use Rattle.shapes.specs.declared.Term.{Term as Kind}
use Rattle.shapes.specs.declared.Term.TheVariants.{Data, Key, Seal}
use Rattle.shapes.specs.declared.Slot.{Slot}

abbrev pub blank_entry : Entry
blank_entry = record { term = Data; marks = record { held = false; own = false } }

abbrev pub blank_slot : Slot
blank_slot = record { key = record { 0 = 0 }; term = record { 0 = 0 }; flags = 0 }

-- an entry of the given kind and marks
abbrev pub entry : Kind → (is_held_mark is_own : Bool) → Entry
entry kind h o = record { term = kind; marks = record { held = h; own = o } }

-- the kinds of entry
abbrev pub is_key_kind : Kind → Bool
is_key_kind Data = false
is_key_kind (Key k) = true
is_key_kind (Seal k p) = false

abbrev pub is_key_entry : Entry → Bool
is_key_entry e = is_key_kind e.term

abbrev pub key_of : Kind → KeyNo
key_of Data = record { 0 = 0 }
key_of (Key k) = k
key_of (Seal k p) = record { 0 = 0 }

abbrev pub is_sealed_under : KeyNo → Kind → Bool
is_sealed_under k Data = false
is_sealed_under k (Key j) = false
is_sealed_under k (Seal j p) = eqb j.0 k.0

abbrev pub payload_no : Kind → TermNo
payload_no Data = record { 0 = 0 }
payload_no (Key k) = record { 0 = 0 }
payload_no (Seal k p) = p

-- what is marked of an entry: the caller can work it out; it is the caller's own
abbrev pub is_held : Entry → Bool
is_held e = e.marks.held

abbrev pub is_own_entry : Entry → Bool
is_own_entry e = e.marks.own
