-- What is decided on what was read of the token's parts is what is decided on the view of them. Rests on specs/Views.antt.
use Rattle.std.specs.Prelude.{Option}
use Prim.Native.Nat.{ℕ, ◌<◌}
use mathlib.Core.Path.{◌≡◌, refl}
use mathlib.Core.List.{List}
use native.Mathlib.Omega.{arith}
use lib.ListN.{get_or}
use Rattle.shapes.specs.declared.Entry.{Entry}
use Rattle.shapes.specs.declared.Slot.{Slot}
use Rattle.shapes.specs.declared.TermNo.{TermNo}
use Rattle.token.specs.declared.Table.{Table}
use Rattle.token.specs.declared.Hands.{Hands}
use Rattle.running.specs.declared.look.Looks.{Looks}
use Rattle.running.specs.declared.look.Looks.TheVariants.{AtHandles, AtPayload, AtTerm, ByCaller}
use Rattle.running.specs.declared.look.Names.{Names}
use Rattle.shapes.specs.declared.Command.{Command}
use Rattle.shapes.specs.declared.Command.TheVariants.{Generate, Wrap, Unwrap, Encrypt, Decrypt, Corrupt, Destroy}
use Rattle.shapes.specs.declared.Command.TheVariants.{OwnKey, OwnData, Seal}
use Rattle.token.specs.Shows.{blank_entry, blank_slot, seal_code}
use Rattle.deciding.specs.Decisions.{decided}
use Rattle.running.specs.Views.{seen_in, names_of, first_at, other_at, aim_of, aim_in, aim_at, equal_in, view_of}

-- a seal's code is above 0
code_above : (looks : Looks) (k p l q m r : ℕ) → 0 < aim_at looks (seal_code k p) (seal_code l q) (seal_code m r)
code_above AtHandles k p l q m r = omega arith
code_above AtPayload k p l q m r = omega arith
code_above AtTerm k p l q m r = omega arith
code_above ByCaller k p l q m r = omega arith

pub aim_positive : (n : Names) (a b : Slot) (first : Entry) → 0 < aim_in n a b first
unfolding aim_in
aim_positive n a b first = code_above n.looks _ _ _ _ _ _

-- what is decided on what is read is what is decided on the view: a command asks for no more than the two terms that it looks at
module _ (policy : ℕ) (table : Table) (hands : Hands) (codes : List ℕ) where
  same_decision : (c : Command)
      → let n = names_of c in
      let a = get_or hands.slots n.a.0 blank_slot in
      let b = get_or hands.slots n.b.0 blank_slot in
      let first = get_or table.entries (first_at n a) blank_entry in
      decided policy c
      (seen_in n hands.live a b first (get_or table.entries (other_at n b first) blank_entry) (equal_in codes (aim_in n a b first))
      table.terms)
      ≡ decided policy c (view_of table hands codes c)
  unfolding decided names_of aim_of aim_in view_of seen_in first_at other_at
  same_decision (Generate f) = refl
  same_decision (Wrap g h) = refl
  same_decision (Unwrap h n f) = refl
  same_decision (Encrypt h n) = refl
  same_decision (Decrypt h n) = refl
  same_decision (Corrupt h) = refl
  same_decision (Destroy h) = refl
  same_decision OwnKey = refl
  same_decision OwnData = refl
  same_decision (Seal k n) = refl

  pub decided_of_seen : (c : Command)
      → {n : Names}
      → n ≡ names_of c
      → {at beside : ℕ}
      → at ≡ first_at n (get_or hands.slots n.a.0 blank_slot)
      → beside ≡ other_at n (get_or hands.slots n.b.0 blank_slot) (get_or table.entries at blank_entry)
      → {code : ℕ}
      → code
      ≡ aim_in n (get_or hands.slots n.a.0 blank_slot) (get_or hands.slots n.b.0 blank_slot)
      (get_or table.entries at blank_entry)
      → {equal : Option TermNo}
      → equal ≡ equal_in codes code
      → decided policy c
      (seen_in n hands.live (get_or hands.slots n.a.0 blank_slot) (get_or hands.slots n.b.0 blank_slot)
      (get_or table.entries at blank_entry) (get_or table.entries beside blank_entry) equal table.terms)
      ≡ decided policy c (view_of table hands codes c)
  decided_of_seen c en e_at e_beside e_code e_equal = rw (e_equal, e_code, e_beside, e_at, en) (same_decision c)
