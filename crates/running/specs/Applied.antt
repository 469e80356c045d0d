-- How a change is made in the token's parts. Assumes nothing.
use Rattle.std.specs.Prelude.{ℕ, suc, ◌<◌, ◌≡◌, Bool, true, false, Some, None, length, get_or, set}
use Rattle.rules.specs.State.{most_terms, most_handles}
use Rattle.shapes.specs.declared.KeyNo.{KeyNo}
use Rattle.shapes.specs.declared.TermNo.{TermNo}
use Rattle.shapes.specs.declared.Term.{Term as Kind}
use Rattle.shapes.specs.declared.Term.TheVariants.{Data, Key, Seal}
use Rattle.shapes.specs.declared.Entry.{Entry}
use Rattle.shapes.specs.declared.Slot.{Slot}
use Rattle.token.specs.declared.Table.{Table}
use Rattle.token.specs.declared.Links.{Links}
use Rattle.token.specs.declared.Hands.{Hands}
use Rattle.token.specs.declared.Token.{Token}
use Rattle.deciding.specs.declared.Change.{Change}
use Rattle.deciding.specs.declared.Change.TheVariants.{Nothing, Bind, Release, NewKey, OwnKey, OwnData, NewSeal, Know}
use Rattle.handles.specs.Live.{BitSet}
use Rattle.token.specs.Shows.{entry, blank_slot, seal_code, bucket}
use Rattle.running.specs.Leaks.{Followed, Followable, kind_at}
use Rattle.shapes.specs.Entries.{key_of}

-- the slot of handle h is stored, and h is live, or not
pub record SlotSet (hands : Hands) (h : ℕ) (slot : Slot) (to : Bool) (result : Hands) : Type 0 where
  pub slots_set : result.slots ≡ set hands.slots h slot
  pub live_set : BitSet hands.live h to result.live

-- one more entry, and one more key where it is a key's
abbrev pub keys_with : Kind → ℕ → ℕ
keys_with Data n = n
keys_with (Key k) n = suc n
keys_with (Seal k p) n = n

abbrev pub appended : Table → Entry → Table
appended table e =
    record { entries = set table.entries table.terms e; terms = suc table.terms; keys = keys_with e.term table.keys }

-- seal number i, of term p under key k, is put into its two chains
abbrev pub linked : Links → (i k p : ℕ) → Links
linked links i k p =
    record {
      newest = set links.newest k (Some (record { 0 = i }));
      older = set links.older i (get_or links.newest k None);
      heads = set links.heads (bucket (seal_code k p)) (Some (record { 0 = i }));
      chain = set links.chain i (get_or links.heads (bucket (seal_code k p)) None);
      codes = set links.codes i (seal_code k p);
    }

-- the leak of term t is followed, or there is none
pub record TableFollowed (table : Table) (t : ℕ) (result : Table) : Type 0 where
  pub same_terms : result.terms ≡ table.terms
  pub same_keys : result.keys ≡ table.keys
  pub followed : Followed table.entries t result.entries

abbrev pub LeakFollowed : (leaks : Bool) → Table → (t : ℕ) → Table → Type 0
LeakFollowed true table t result = TableFollowed table t result
LeakFollowed false table t result = result ≡ table

-- the entries that commands append
abbrev pub key_entry : Table → (own : Bool) → Entry
key_entry table own = entry (Key (record { 0 = table.keys })) own own

abbrev pub item_entry : Entry
item_entry = entry Data true true

abbrev pub seal_entry : KeyNo → TermNo → Entry
seal_entry k p = entry (Seal k p) true false

-- the slot of a key that is generated now
abbrev pub new_slot : Table → (flags : ℕ) → Slot
new_slot table flags = record { key = record { 0 = table.keys }; term = record { 0 = table.terms }; flags = flags }

pub record Parts (result : Token) (table : Table → Type 0) (links : Links → Type 0) (hands : Hands → Type 0) : Type 0 where
  pub of_table : table result.table
  pub of_links : links result.links
  pub of_hands : hands result.hands

unfoldable pub Applied : Token → Change → Token → Type 0
Applied t Nothing r = r ≡ t
Applied t (Bind h slot) r =
    Parts r (λ x. x ≡ t.table) (λ x. x ≡ t.links) (SlotSet t.hands h.0 slot true)
Applied t (Release h) r =
    Parts r (λ x. x ≡ t.table) (λ x. x ≡ t.links) (SlotSet t.hands h.0 blank_slot false)
Applied t (NewKey h flags) r =
    Parts r (λ x. x ≡ appended t.table (key_entry t.table false)) (λ x. x ≡ t.links)
    (SlotSet t.hands h.0 (new_slot t.table flags) true)
Applied t OwnKey r =
    Parts r (λ x. x ≡ appended t.table (key_entry t.table true)) (λ x. x ≡ t.links) (λ x. x ≡ t.hands)
Applied t OwnData r = Parts r (λ x. x ≡ appended t.table item_entry) (λ x. x ≡ t.links) (λ x. x ≡ t.hands)
Applied t (NewSeal k p leaks) r =
    Parts r (LeakFollowed leaks (appended t.table (seal_entry k p)) p.0)
    (λ x. x ≡ linked t.links t.table.terms k.0 p.0)
    (λ x. x ≡ t.hands)
Applied t (Know p) r = Parts r (TableFollowed t.table p.0) (λ x. x ≡ t.links) (λ x. x ≡ t.hands)

-- what a change asks of the token: room for what it appends, numbers inside the arrays, and a leak that can be followed
pub record Room (t : Token) : Type 0 where
  pub few_terms : t.table.terms < most_terms
  pub few_keys : t.table.keys < most_terms
  pub entries_length : length t.table.entries ≡ most_terms

pub record HandRoom (t : Token) (h : ℕ) : Type 0 where
  pub inside : h < most_handles
  pub slots_length : length t.hands.slots ≡ most_handles

pub record KeyRoom (t : Token) (h : ℕ) : Type 0 where
  pub for_term : Room t
  pub for_handle : HandRoom t h

abbrev pub LeakFollowable : (leaks : Bool) → Table → Links → (p : ℕ) → Type 0
LeakFollowable true table links p = Followable table.entries links.newest links.older table.terms p (key_of (kind_at table.entries p))
LeakFollowable false table links p = Unit {0}

pub record SealRoom (t : Token) (k p : ℕ) (leaks : Bool) : Type 0 where
  pub for_term : Room t
  pub key_inside : k < most_terms
  pub payload_inside : p < most_terms
  pub followable :
      LeakFollowable leaks (appended t.table (seal_entry (record { 0 = k }) (record { 0 = p })))
      (linked t.links t.table.terms k p) p

pub record KnowRoom (t : Token) (p : ℕ) : Type 0 where
  pub inside : p < most_terms
  pub followable : LeakFollowable true t.table t.links p

abbrev pub Applicable : Token → Change → Type 0
Applicable t Nothing = Unit {0}
Applicable t (Bind h slot) = HandRoom t h.0
Applicable t (Release h) = HandRoom t h.0
Applicable t (NewKey h flags) = KeyRoom t h.0
Applicable t OwnKey = Room t
Applicable t OwnData = Room t
Applicable t (NewSeal k p leaks) = SealRoom t k.0 p.0 leaks
Applicable t (Know p) = KnowRoom t p.0
