-- What a command sees of the token's parts, as one function of them: the handles and terms that it names, and what hangs on
-- these. A number past the end of an array reads as number 0 there; nothing is asked of what it reads. Assumes nothing.
use Rattle.std.specs.Bool.{then_some}
use Rattle.std.specs.Prelude.{ℕ, zero, suc, ◌≤◌, ◌≡◌, cond, List, eqb, ltb, length, get_or, None, Option, Some}
use Rattle.rules.specs.State.{most_terms}
use Rattle.shapes.specs.declared.TermNo.{TermNo}
use Rattle.shapes.specs.declared.HandleNo.{HandleNo}
use Rattle.shapes.specs.declared.Entry.{Entry}
use Rattle.shapes.specs.declared.Slot.{Slot}
use Rattle.token.specs.declared.Table.{Table}
use Rattle.token.specs.declared.Hands.{Hands}
use Rattle.running.specs.declared.look.Looks.{Looks}
use Rattle.running.specs.declared.look.Looks.TheVariants.{AtHandles, AtPayload, AtTerm, ByCaller}
use Rattle.running.specs.declared.look.Names.{Names}
use Rattle.token.specs.declared.Token.{Token}
use Rattle.deciding.specs.Decisions.{decided}
use Rattle.deciding.specs.declared.View.{View}
use Rattle.shapes.specs.declared.Command.{Command}
use Rattle.shapes.specs.declared.Command.TheVariants.{Generate, Wrap, Unwrap, Encrypt, Decrypt, Corrupt, Destroy, OwnKey, OwnData, Seal}
use Rattle.token.specs.Chains.{last, Linked}
use Rattle.handles.specs.Live.{bit, free_in}
use Rattle.token.specs.Shows.{blank_entry, blank_slot, seal_code, bucket_chain}
use Rattle.shapes.specs.Entries.{key_of, payload_no}

abbrev pub no_handle : HandleNo
no_handle = record { 0 = 0 }

abbrev pub no_term : TermNo
no_term = record { 0 = 0 }

unfoldable pub names_of : Command → Names
names_of (Generate f) = record { a = no_handle; b = no_handle; t = no_term; u = no_term; looks = AtTerm }
names_of (Wrap a b) = record { a = a; b = b; t = no_term; u = no_term; looks = AtHandles }
names_of (Unwrap h t f) = record { a = h; b = no_handle; t = t; u = no_term; looks = AtPayload }
names_of (Encrypt h t) = record { a = h; b = no_handle; t = t; u = no_term; looks = AtTerm }
names_of (Decrypt h t) = record { a = h; b = no_handle; t = t; u = no_term; looks = AtPayload }
names_of (Corrupt h) = record { a = h; b = no_handle; t = no_term; u = no_term; looks = AtHandles }
names_of (Destroy h) = record { a = h; b = no_handle; t = no_term; u = no_term; looks = AtTerm }
names_of OwnKey = record { a = no_handle; b = no_handle; t = no_term; u = no_term; looks = ByCaller }
names_of OwnData = record { a = no_handle; b = no_handle; t = no_term; u = no_term; looks = ByCaller }
names_of (Seal k t) = record { a = no_handle; b = no_handle; t = k; u = t; looks = ByCaller }

abbrev pub inside : ℕ → ℕ
inside i = cond (ltb i most_terms) i 0

abbrev pub entry_at : List Entry → ℕ → Entry
entry_at entries i = get_or entries (inside i) blank_entry

abbrev pub slot_at : List Slot → ℕ → Slot
slot_at slots h = get_or slots h blank_slot

-- the code of the seal that the command would make
unfoldable pub aim_of : Command → (a b : Slot) → (t : Entry) → ℕ
aim_of (Generate f) a b t = seal_code 0 0
aim_of (Wrap h g) a b t = seal_code a.key.0 b.term.0
aim_of (Unwrap h n f) a b t = seal_code 0 0
aim_of (Encrypt h n) a b t = seal_code a.key.0 n.0
aim_of (Decrypt h n) a b t = seal_code 0 0
aim_of (Corrupt h) a b t = seal_code 0 0
aim_of (Destroy h) a b t = seal_code 0 0
aim_of OwnKey a b t = seal_code 0 0
aim_of OwnData a b t = seal_code 0 0
aim_of (Seal k n) a b t = seal_code (key_of t.term).0 n.0

-- one more than a number, or 0, as the number or none
abbrev pub equal_at : (link : ℕ) → Option TermNo
equal_at zero = None
equal_at (suc i) = Some (record { 0 = i })

-- the last number with this code
unfoldable pub equal_in : List ℕ → (code : ℕ) → Option TermNo
equal_in codes code = equal_at (last (λ i. eqb (get_or codes i 0) code) most_terms)

-- the chains of the buckets lead to every code
pub record Findable (heads chain : List (Option TermNo)) (codes : List ℕ) : Type 0 where
  pub count : ℕ
  pub few : count ≤ most_terms
  pub codes_length : length codes ≡ most_terms
  pub blank_past : (i : ℕ) → count ≤ i → get_or codes i 0 ≡ 0
  pub chained : Linked (λ i. bucket_chain (get_or codes i 0)) heads chain count

unfoldable pub view_of : Table → Hands → (codes : List ℕ) → Command → View
view_of table hands codes c =
    record {
      a = then_some (bit hands.live (names_of c).a.0) (slot_at hands.slots (names_of c).a.0);
      b = then_some (bit hands.live (names_of c).b.0) (slot_at hands.slots (names_of c).b.0);
      t = then_some (ltb (names_of c).t.0 table.terms) (entry_at table.entries (names_of c).t.0);
      u = then_some (ltb (names_of c).u.0 table.terms) (entry_at table.entries (names_of c).u.0);
      payload = entry_at table.entries (payload_no (entry_at table.entries (names_of c).t.0).term).0;
      outer = entry_at table.entries (slot_at hands.slots (names_of c).a.0).term.0;
      inner = entry_at table.entries (slot_at hands.slots (names_of c).b.0).term.0;
      equal =
          equal_in codes
          (aim_of c (slot_at hands.slots (names_of c).a.0) (slot_at hands.slots (names_of c).b.0)
          (entry_at table.entries (names_of c).t.0));
      free = free_in hands.live;
      terms = table.terms;
    }

-- the places of the two terms that it looks at: of its handles' terms, or of the first one and what that seals, or of the two it names
abbrev pub first_no : Looks → (of_handle named : ℕ) → ℕ
first_no AtHandles of_handle named = of_handle
first_no AtPayload of_handle named = named
first_no AtTerm of_handle named = named
first_no ByCaller of_handle named = named

unfoldable pub first_at : Names → (a : Slot) → ℕ
first_at names a = inside (first_no names.looks a.term.0 names.t.0)

abbrev pub other_no : Looks → (of_handle of_payload named : ℕ) → ℕ
other_no AtHandles of_handle of_payload named = of_handle
other_no AtPayload of_handle of_payload named = of_payload
other_no AtTerm of_handle of_payload named = named
other_no ByCaller of_handle of_payload named = named

unfoldable pub other_at : Names → (b : Slot) → (first : Entry) → ℕ
other_at names b first = inside (other_no names.looks b.term.0 (payload_no first.term).0 names.u.0)

-- the code that it looks for: of the seal that it would make, of any where it makes none
abbrev pub aim_at : Looks → (of_handles of_caller of_term : ℕ) → ℕ
aim_at AtHandles of_handles of_caller of_term = of_handles
aim_at AtPayload of_handles of_caller of_term = of_term
aim_at AtTerm of_handles of_caller of_term = of_term
aim_at ByCaller of_handles of_caller of_term = of_caller

unfoldable pub aim_in : Names → (a b : Slot) → (first : Entry) → ℕ
aim_in names a b first =
    aim_at names.looks (seal_code a.key.0 b.term.0) (seal_code (key_of first.term).0 names.u.0) (seal_code a.key.0 names.t.0)

-- what is read, as a view: each of the two terms stands wherever a command may look for it
unfoldable pub seen_in : Names → (live : List ℕ) → (a b : Slot) → (first other : Entry) → Option TermNo → (terms : ℕ) → View
seen_in names live a b first other equal terms =
    record {
      a = then_some (bit live names.a.0) a;
      b = then_some (bit live names.b.0) b;
      t = then_some (ltb names.t.0 terms) first;
      u = then_some (ltb names.u.0 terms) other;
      payload = other;
      outer = first;
      inner = other;
      equal = equal;
      free = free_in live;
      terms = terms;
    }

-- what is read stands for the view: whatever the policy, the same is decided on it
abbrev pub SeesAlike : Token → Command → View → Type 0
SeesAlike t c seen = (policy : ℕ) → decided policy c seen ≡ decided policy c (view_of t.table t.hands t.links.codes c)
