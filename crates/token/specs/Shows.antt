-- A token shows a state: each entry stands beside the term of its number, each slot beside the handle of its number, the counts
-- and the links are those of the state, and everything past the counts, and every dead handle's slot, is one fixed blank. So a
-- state is shown by one token only (proofs/Shown.antt). Assumes nothing.
use Rattle.std.specs.Prelude.{ℕ, zero, suc, ◌+◌, ◌*◌, ◌/◌, ◌%◌, ◌≤◌, ◌<◌, ◌≡◌, Bool, true, false, List, length, get_or}
use Rattle.std.proofs.Math.Option.{Option, none, some}
use Rattle.std.proofs.Math.ListN.{get_elem?}
use Rattle.terms.specs.Terms.{Term, item, key, seal, number_of}
use Rattle.terms.specs.Following.{held_by_following}
use Rattle.rules.specs.State.{State, Now, dead, live, Origin, generated, own, slot, is_live, most_handles, most_terms}
use Rattle.rules.specs.State.{Slot as Handle}
use Rattle.shapes.specs.declared.Entry.{Entry}
use Rattle.shapes.specs.declared.Term.{Term as Kind}
use Rattle.shapes.specs.declared.Term.TheVariants.{Data, Key, Seal}
use Rattle.shapes.specs.declared.Slot.{Slot}
use Rattle.token.specs.declared.Links.{Links}
use Rattle.token.specs.declared.Hands.{Hands}
use Rattle.token.specs.declared.Token.{Token}
pub use Rattle.shapes.specs.Entries.{blank_entry, blank_slot, entry}
use Rattle.token.specs.Chains.{Linked}
use Rattle.handles.specs.Live.{Words, bit}

unfoldable pub is_own : Option Origin → Bool
is_own none = false
is_own (some generated) = false
is_own (some own) = true

-- the entry beside a term of the state's table; past the last term the blank
unfoldable pub entry_for : State → Option Term → Entry
entry_for s none = blank_entry
entry_for s (some (item n)) = entry Data true true
entry_for s (some (key k)) =
    entry (Key (record { 0 = k })) (held_by_following s.past.own s.past.given s.now.table (key k))
    (is_own (get_elem? s.now.origins k))
entry_for s (some (seal k m)) = entry (Seal (record { 0 = k }) (record { 0 = number_of s.now.table m })) true false

unfoldable pub entry_of : State → ℕ → Entry
entry_of s i = entry_for s (get_elem? s.now.table i)

-- the slot beside a handle
unfoldable pub slot_for : List Term → Handle → Slot
slot_for table dead = blank_slot
slot_for table (live k f) = record { key = record { 0 = k }; term = record { 0 = number_of table (key k) }; flags = f }

-- the code of a seal, which no other seal has, and 0 for every other term
abbrev pub seal_code : (k p : ℕ) → ℕ
seal_code k p = suc (k * 1025 + p)

unfoldable pub code_of : Kind → ℕ
code_of Data = 0
code_of (Key k) = 0
code_of (Seal k p) = seal_code k.0 p.0

-- the two ways to chain seals: by the key that they are under, and by bucket, for finding an equal one
unfoldable pub under_chain : Kind → ℕ
under_chain Data = 0
under_chain (Key k) = 0
under_chain (Seal k p) = suc k.0

-- the bucket of a code: a multiple of it, of which the middle is taken, so that codes in a row or in steps are spread over the 1,024
unfoldable pub bucket : (code : ℕ) → ℕ
bucket code = code * 40503 / 64 % 1024

unfoldable pub bucket_chain : (code : ℕ) → ℕ
bucket_chain zero = 0
bucket_chain (suc c) = suc (bucket (suc c))

pub record ShowsLinks (links : Links) (entries : List Entry) (n : ℕ) : Type 0 where
  pub codes_length : length links.codes ≡ most_terms
  pub codes_shown : (i : ℕ) → i < most_terms → get_or links.codes i 0 ≡ code_of (get_or entries i blank_entry).term
  pub by_key : Linked (λ i. under_chain (get_or entries i blank_entry).term) links.newest links.older n
  pub by_bucket : Linked (λ i. bucket_chain (get_or links.codes i 0)) links.heads links.chain n

pub record ShowsHands (hands : Hands) (now : Now) : Type 0 where
  pub slots_length : length hands.slots ≡ most_handles
  pub slots_shown : (h : ℕ) → h < most_handles → get_or hands.slots h blank_slot ≡ slot_for now.table (slot now h)
  pub words : Words hands.live
  pub live_shown : (h : ℕ) → h < most_handles → bit hands.live h ≡ is_live (slot now h)

pub record Shows (t : Token) (s : State) : Type 0 where
  pub room : length s.now.table ≤ most_terms
  pub entries_length : length t.table.entries ≡ most_terms
  pub entries_shown : (i : ℕ) → i < most_terms → get_or t.table.entries i blank_entry ≡ entry_of s i
  pub terms_shown : t.table.terms ≡ length s.now.table
  pub keys_shown : t.table.keys ≡ length s.now.origins
  pub links_shown : ShowsLinks t.links t.table.entries (length s.now.table)
  pub hands_shown : ShowsHands t.hands s.now
