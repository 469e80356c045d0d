-- What a command sees of the handles and terms that it names, where the token shows a state: a handle is dead, or live with the
-- slot of its key; a term number is missing, or there with the entry of its term. Rests on SeenParts and the rules crate's Sound.
use Rattle.shapes.specs.declared.Entry.{Entry}
use Rattle.shapes.specs.declared.Slot.{Slot}
use Rattle.std.specs.Prelude.{Option}
use Prim.Native.Nat.{ℕ, zero, suc, ◌<◌}
use native.Mathlib.Omega.{arith}
use mathlib.Core.Path.{◌≡◌, refl, sym, ap, ◌∙◌}
use mathlib.Core.Bool.{true, not, false≢true}
use mathlib.Core.List.Memᴰ
use mathlib.Core.List.{List, [], ◌∷◌}
use mathlib.Core.Option.{Option as Maybe, none, some}
use lib.Dec.{ltb}
use lib.ListN.{length, get_or, get_elem?}
use borrow.Author.Tests.{lt-ltb, ltb-true}
use Rattle.terms.specs.Lists.{◌∈◌}
use Rattle.terms.specs.Terms.{Term, Table, item, key, seal, number_of}
use Rattle.terms.proofs.Lists.{at_below, at_in, below_at, at_get_d}
use Rattle.terms.proofs.Terms.{number_at}
use Rattle.rules.specs.State.{State, Now, dead, live, slot, is_live, key_of_slot, is_term, term_at, is_key, key_number, payload}
use Rattle.rules.specs.State.{Slot as Hand, most_handles, most_terms}
use Rattle.rules.specs.Refusals.{sealed_under}
use Rattle.rules.specs.Computing.{judge}
use Rattle.rules.proofs.Sound.{Sound}
use Rattle.token.specs.declared.Token.{Token}
use Rattle.handles.specs.Live.{bit}
use Rattle.token.specs.Shows.{entry_for, entry_of, slot_for, Shows}
use Rattle.shapes.specs.Entries.{is_key_kind, key_of, is_sealed_under, payload_no, is_held}
use Rattle.deciding.specs.Decisions.{is_missing, entry_in}
use Rattle.std.specs.Bool.{then_some}
use Rattle.running.specs.Views.{entry_at, slot_at}
use Rattle.running.proofs.SeenParts.{handle_for, handle_in_lem, lookup_for, lookup_in_lem, below_there, or_item, get_d_or}
use Rattle.running.proofs.SeenParts.{seen_there, seen_entry, entry_judged, entry_is_key, entry_key, entry_under, entry_payload}
use Rattle.running.proofs.SeenParts.{slot_term, sealed_is_there}

-- the term of a number, as it stands in the table
term_or : (now : Now) (n : ℕ) → term_at now n ≡ or_item (get_elem? now.table n)
unfolding term_at
term_or now n = get_d_or now.table n

-- what is asked of the entry of a number is what the rules ask of the term of that number, also past the end
pub held_seen : (s : State) (n : ℕ) → is_held (entry_of s n) ≡ judge s n
unfolding entry_of judge
held_seen s n = entry_judged s (get_elem? s.now.table n)

pub key_seen : (s : State) (n : ℕ) → is_key_kind (entry_of s n).term ≡ is_key (term_at s.now n)
unfolding entry_of
key_seen s n = rw (term_or s.now n) (entry_is_key s (get_elem? s.now.table n))

pub key_number_seen : (s : State) (n : ℕ) → key_of (entry_of s n).term ≡ record { 0 = key_number (term_at s.now n) }
unfolding entry_of
key_number_seen s n = rw (term_or s.now n) (entry_key s (get_elem? s.now.table n))

pub under_seen : (s : State) (k n : ℕ) → is_sealed_under (record { 0 = k }) (entry_of s n).term ≡ sealed_under k (term_at s.now n)
unfolding entry_of
under_seen s k n = rw (term_or s.now n) (entry_under s k (get_elem? s.now.table n))

pub payload_seen : (s : State) (k n : ℕ) → sealed_under k (term_at s.now n) ≡ true →
    payload_no (entry_of s n).term ≡ record { 0 = number_of s.now.table (payload (term_at s.now n)) }
unfolding entry_of
payload_seen s k n e =
    rw (term_or s.now n) (entry_payload s k (get_elem? s.now.table n) (rw (term_or s.now n) at e))

-- the handle and the term that are seen for a number
abbrev pub handle_of : State → ℕ → Option Slot
handle_of s h = handle_for s.now.table (slot s.now h)

abbrev pub lookup_of : State → ℕ → Option Entry
lookup_of s n = lookup_for s (get_elem? s.now.table n)

-- what is asked of a term that is looked up
pub missing_seen : (s : State) (n : ℕ) → is_missing (lookup_of s n) ≡ not (is_term s.now n)
unfolding is_term
missing_seen s n = rw (below_there s.now.table n) (seen_there s (get_elem? s.now.table n))

pub lookup_entry : (s : State) (n : ℕ) → entry_in (lookup_of s n) ≡ entry_of s n
unfolding entry_of
lookup_entry s n = seen_entry s (get_elem? s.now.table n)

-- the key of a live handle is in the table
hand_in : (slots : List Hand) (h : ℕ) → is_live (get_or slots h dead) ≡ true → get_or slots h dead ∈ slots
unfolding is_live
hand_in [] h e = absurd (false≢true e)
hand_in (x ∷ slots) zero e = Memᴰ.head refl
hand_in (x ∷ slots) (suc h) e = Memᴰ.tail (hand_in slots h e)

key_in : {s : State} (sound : Sound s) (x : Hand) → is_live x ≡ true → x ∈ s.now.handles → key (key_of_slot x) ∈ s.now.table
unfolding is_live key_of_slot
key_in sound dead e h = absurd (false≢true e)
key_in sound (live k f) e h = sound.handled.live_key h

pub live_key_in : {s : State} (sound : Sound s) (h : ℕ) → is_live (slot s.now h) ≡ true →
    key (key_of_slot (slot s.now h)) ∈ s.now.table
unfolding slot
live_key_in {s} sound h e = key_in sound (slot s.now h) e (hand_in s.now.handles h e)

-- a term of the table has a number below the length of the table, and no other term of the table has that number
pub number_below : {table : Table} {m : Term} → m ∈ table → number_of table m < length table
number_below {table} h = at_below table _ (number_at h)

pub number_one : {table : Table} {m m' : Term} → m ∈ table → m' ∈ table → number_of table m ≡ number_of table m' → m ≡ m'
number_one {table} {m} {m'} h h' e =
    let a : get_elem? table (number_of table m) ≡ some m = number_at h in
    let b : get_elem? table (number_of table m') ≡ some m' = number_at h' in
    cc

module _ {s : State} (sound : Sound s) where
  -- the term of a number that is there
  term_there : (n : ℕ) → is_term s.now n ≡ true → get_elem? s.now.table n ≡ some (term_at s.now n)
  unfolding is_term term_at
  term_there n e =
      let at = below_at s.now.table n (ltb-true n (length s.now.table) e) in
      at.1 ∙ ap {B = Maybe Term} some (sym (at_get_d s.now.table n (item 0) at.1))

  -- it is in the table, at that number
  pub term_in : (n : ℕ) → is_term s.now n ≡ true → term_at s.now n ∈ s.now.table
  term_in n e = at_in s.now.table n (term_there n e)

  pub term_number : (n : ℕ) → is_term s.now n ≡ true → number_of s.now.table (term_at s.now n) ≡ n
  term_number n e =
      sound.counted.shape.once {i = number_of s.now.table (term_at s.now n)} (number_at (term_in n e)) (term_there n e)

  -- the payload of a seal is in the table
  payload_at : (n k : ℕ) (x : Maybe Term) → get_elem? s.now.table n ≡ x → sealed_under k (or_item x) ≡ true →
      payload (or_item x) ∈ s.now.table
  unfolding sealed_under or_item payload
  payload_at n k none at e = absurd (false≢true e)
  payload_at n k (some (item i)) at e = absurd (false≢true e)
  payload_at n k (some (key j)) at e = absurd (false≢true e)
  payload_at n k (some (seal j m)) at e =
      let earlier = sound.counted.shape.payload_earlier {i = n} at in
      at_in s.now.table earlier.place earlier.is_there

  pub payload_in : (k n : ℕ) → sealed_under k (term_at s.now n) ≡ true → payload (term_at s.now n) ∈ s.now.table
  payload_in k n e = rw (term_or s.now n) (payload_at n k (get_elem? s.now.table n) refl (rw (term_or s.now n) at e))

  -- a sealed term is there
  pub sealed_there : (k n : ℕ) → sealed_under k (term_at s.now n) ≡ true → is_term s.now n ≡ true
  unfolding is_term
  sealed_there k n e =
      below_there s.now.table n ∙ sealed_is_there k (get_elem? s.now.table n) (rw (term_or s.now n) at e)

module _ {t : Token} {s : State} (shows : Shows t s) where
  -- the slot of a handle, and the handle
  pub slot_seen : (h : ℕ) → h < most_handles → slot_at t.hands.slots h ≡ slot_for s.now.table (slot s.now h)
  slot_seen h l = shows.hands_shown.slots_shown h l

  pub handle_seen : (h : ℕ) → h < most_handles →
      then_some (bit t.hands.live h) (slot_at t.hands.slots h) ≡ handle_of s h
  handle_seen h l =
      rw (shows.hands_shown.live_shown h l, slot_seen h l) (handle_in_lem s.now.table (slot s.now h))

  -- the entry of a term number
  pub entry_seen : (n : ℕ) → n < length s.now.table → entry_at t.table.entries n ≡ entry_of s n
  entry_seen n l =
      let room = shows.room in
      let fits : n < most_terms = omega arith in
      rw (lt-ltb n most_terms fits) (shows.entries_shown n fits)

  -- a term that is looked up
  pub lookup_seen : (n : ℕ) →
      then_some (ltb n t.table.terms) (entry_at t.table.entries n) ≡ lookup_of s n
  unfolding entry_of
  lookup_seen n =
      rw shows.terms_shown
      (lookup_in_lem s (get_elem? s.now.table n) (entry_at t.table.entries n) (ltb n (length s.now.table))
      (below_there s.now.table n)
      (λ (e : ltb n (length s.now.table) ≡ true). entry_seen n (ltb-true _ _ e)))

  -- the entry of a term of the table
  pub entry_in_seen : {m : Term} → m ∈ s.now.table →
      entry_at t.table.entries (number_of s.now.table m) ≡ entry_for s (some m)
  unfolding entry_of
  entry_in_seen {m} h =
      entry_seen (number_of s.now.table m) (number_below h) ∙ ap (entry_for s) (number_at h)

  -- the entry of a live handle's key, and of the payload of a seal
  pub live_entry : Sound s → (h : ℕ) → h < most_handles → is_live (slot s.now h) ≡ true →
      entry_at t.table.entries (slot_at t.hands.slots h).term.0 ≡ entry_for s (some (key (key_of_slot (slot s.now h))))
  live_entry sound h l e =
      rw (slot_seen h l, slot_term s.now.table (slot s.now h) e) (entry_in_seen (live_key_in sound h e))

  pub payload_entry : Sound s → (k n : ℕ) → sealed_under k (term_at s.now n) ≡ true →
      entry_at t.table.entries (payload_no (entry_at t.table.entries n).term).0 ≡
      entry_for s (some (payload (term_at s.now n)))
  unfolding is_term
  payload_entry sound k n e =
      let below = ltb-true n (length s.now.table) (sealed_there sound k n e) in
      rw (entry_seen n below, payload_seen s k n e) (entry_in_seen (payload_in sound k n e))
