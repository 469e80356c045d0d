-- The limits and the counts of document 01, "Handles, keys and terms", in every state that a token can come to: how many terms and live
-- handles there are, what a live handle carries, which keys are terms, that a number stays with its term; and so how long the list
-- of known keys can be. Rests on SoundKept, Judging and KeyOrder.
use Prim.Native.Nat.{ℕ, ◌+◌, ◌<◌, ◌≤◌}
use native.Mathlib.Nat.{eq-or-lt_of_le}
use native.Mathlib.Omega.{arith}
use mathlib.Core.Path.{◌≡◌, refl}
use mathlib.Core.Logic.{⊎_elim, ◌↔◌}
use mathlib.Core.Bool.{true, false}
use mathlib.Core.List.Memᴰ
use mathlib.Core.List.{List, [], ◌∷◌}
use mathlib.Core.Option.{some}
use borrow.Author.Tests.{ltb-true, ltb-false, leb-false}
use lib.Dec.{ltb}
use lib.ListN.{get_elem?, get_or, length, length-append, get_or-eq_default}
use Rattle.terms.specs.Lists.{◌∈◌, some_of}
use Rattle.terms.specs.Terms.{Term, Table, key, listed, enter}
use Rattle.terms.proofs.Lists.{bool_cases, at_below, in_at, all_set}
use Rattle.terms.proofs.Terms.{enter_listed, enter_new, at_enter}
use Rattle.rules.specs.Flags.{holds_128}
use Rattle.rules.specs.Templates.{Policy}
use Rattle.rules.specs.Commands.{Command, GENERATE, WRAP, UNWRAP, ENCRYPT, DECRYPT, CORRUPT, DESTROY, OWN_KEY, OWN_DATA, SEAL, body}
use Rattle.rules.specs.State.{Now, State, Slot, dead, live, fresh, slot, count_live, new_key, most_terms, most_handles}
use Rattle.rules.specs.Changes.{Change, enters, binds, counts_key, counts_item, owns, gives, corrupts, wraps, bears}
use Rattle.rules.specs.Changes.{answers, changes, giving, all_changes, change_now, change_past, all_of, after}
use Rattle.rules.specs.Refusals.{bad_flags}
use Rattle.rules.specs.Runs.{Answer, Run, Reachable}
use Rattle.rules.specs.Known.{Ascending, one, more, KnownList}
use Rattle.rules.proofs.Done.{room_for}
use Rattle.rules.proofs.Induction.{Kept, run_kept, reachable_has}
use Rattle.rules.proofs.Named.{Live, neither}
use Rattle.rules.proofs.NewHandle.{count_bounded}
use Rattle.rules.proofs.Sound.{Sound}
use Rattle.rules.proofs.SoundKept.{sound}
use Rattle.rules.proofs.Judging.{known_in_table}
use Rattle.rules.proofs.KeyOrder.{InOrder, keys_in_order}
use Rattle.rules.proofs.Handles.{fresh_dead}

-- entering a term that is there already, or for which there is room
enter_few : (table : Table) (m : Term) → length table ≤ most_terms → (listed table m ≡ false → length table < most_terms) →
    length (enter table m) ≤ most_terms
enter_few table m few room =
    bool_cases (listed table m) (λ (e : listed table m ≡ true). rw (enter_listed table m e) few)
    (λ (e : listed table m ≡ false). rw (enter_new table m e, length-append) (omega (arith, room e)))

abbrev FewTerms : State → Type 0
FewTerms s = length s.now.table ≤ most_terms

few_terms_kept : (p : Policy) → Kept p FewTerms
unfolding after all_of all_changes changes giving answers change_now change_past
few_terms_kept p s (GENERATE f) held j d few = enter_few _ _ few (room_for d _ (Memᴰ.tail (Memᴰ.head refl)))
few_terms_kept p s (WRAP a b) held j d few = enter_few _ _ few (room_for d _ (Memᴰ.tail (Memᴰ.head refl)))
few_terms_kept p s (UNWRAP h t f) held j d few = few
few_terms_kept p s (ENCRYPT h t) held j d few = enter_few _ _ few (room_for d _ (Memᴰ.head refl))
few_terms_kept p s (DECRYPT h t) held j d few = enter_few _ _ few (room_for d _ (Memᴰ.head refl))
few_terms_kept p s (CORRUPT h) held j d few = enter_few _ _ few (room_for d _ (Memᴰ.tail (Memᴰ.head refl)))
few_terms_kept p s (DESTROY h) held j d few = few
few_terms_kept p s OWN_KEY held j d few =
    enter_few _ _ few (room_for d _ (Memᴰ.tail (Memᴰ.tail (Memᴰ.head refl))))
few_terms_kept p s OWN_DATA held j d few =
    enter_few _ _ few (room_for d _ (Memᴰ.tail (Memᴰ.tail (Memᴰ.head refl))))
few_terms_kept p s (SEAL k t) held j d few = enter_few _ _ few (room_for d _ (Memᴰ.head refl))

few_terms_fresh : FewTerms fresh
unfolding fresh
few_terms_fresh = omega arith

-- a live handle's byte does not hold 128
abbrev Clean : Slot → Type 0
Clean dead = Unit {0}
Clean (live k f) = holds_128 f ≡ false

abbrev AllClean : State → Type 0
AllClean s = (x : Slot) → x ∈ s.now.handles → Clean x

clean_kept : (p : Policy) → Kept p AllClean
unfolding after all_of all_changes changes giving answers change_now change_past body bad_flags some_of
clean_kept p s (GENERATE f) held j d all = all_set Clean _ _ all (neither _ _ d.flags_good).0
clean_kept p s (WRAP a b) held j d all = all
clean_kept p s (UNWRAP h t f) held j d all = all_set Clean _ _ all (neither _ _ d.flags_good).0
clean_kept p s (ENCRYPT h t) held j d all = all
clean_kept p s (DECRYPT h t) held j d all = all
clean_kept p s (CORRUPT h) held j d all = all
clean_kept p s (DESTROY h) held j d all = all_set Clean _ _ all tt
clean_kept p s OWN_KEY held j d all = all
clean_kept p s OWN_DATA held j d all = all
clean_kept p s (SEAL k t) held j d all = all

-- term number t is m
abbrev IsNumber : ℕ → Term → Now → Type 0
IsNumber t m now = get_elem? now.table t ≡ some m

number_kept : (t : ℕ) (m : Term) (x : Change) (now : Now) → IsNumber t m now → IsNumber t m (change_now x now)
unfolding change_now
number_kept t m (enters x) now h = at_enter now.table x t h
number_kept t m (binds n x) now h = h
number_kept t m (counts_key o) now h = h
number_kept t m counts_item now h = h
number_kept t m (owns x) now h = h
number_kept t m (gives x) now h = h
number_kept t m (corrupts k) now h = h
number_kept t m (wraps link) now h = h
number_kept t m (bears birth) now h = h

numbers_kept : (t : ℕ) (m : Term) (list : List Change) (s : State) → IsNumber t m s.now → IsNumber t m (all_of list s).now
unfolding all_of
numbers_kept t m [] s h = h
numbers_kept t m (x ∷ list) s h = numbers_kept t m list _ (number_kept t m x s.now h)

-- "Terms number from 0 as they come into being", and "nothing frees a term": a term's number is that term's in every later state
pub number_stays : {p : Policy} {s end : State} {cs : List Command} {said : List Answer} (t : ℕ) {m : Term} → Run p s cs said end →
    get_elem? s.now.table t ≡ some m → get_elem? end.now.table t ≡ some m
unfolding after
number_stays t {m} run h = run_kept (λ s. IsNumber t m s.now) (λ s c held j d i. numbers_kept t m _ s i) run h

-- of two keys in order, the one with the lower key number has the lower term number
lower_first : (table : Table) → InOrder table → (i j : ℕ) {a b : ℕ} → get_elem? table i ≡ some (key a) → get_elem? table j ≡ some (key b) →
    a < b → i < j
lower_first table order i j {a} {b} x y less =
    bool_cases (ltb i j) (λ e. ltb-true i j e)
    (λ e.
    ⊎_elim (λ (q : j ≡ i). let same : a ≡ b = cc in absurd (omega arith)) (λ l. absurd (omega (arith, order j i b a y x l)))
    (eq-or-lt_of_le (ltb-false i j e)))

-- from the place of the first of ascending keys on, the table has room for them all
room_for_keys : (table : Table) → InOrder table → (i : ℕ) {k : ℕ} {list : List ℕ} → get_elem? table i ≡ some (key k) →
    Ascending (k ∷ list) → ((j : ℕ) → j ∈ list → key j ∈ table) → i + length (k ∷ list) ≤ length table
room_for_keys table order i at one all = omega (arith, at_below table i at)
room_for_keys table order i at (more {k = k} less up) all =
    let next = in_at (all k (Memᴰ.head refl)) in
    omega (
      arith,
      lower_first table order i next.0 at next.1 less,
      room_for_keys table order next.0 next.1 up (λ j h. all j (Memᴰ.tail h)),
    )

keys_fit : {table : Table} (list : List ℕ) → InOrder table → Ascending list → ((k : ℕ) → k ∈ list → key k ∈ table) →
    length list ≤ length table
keys_fit [] order up all = omega arith
keys_fit {table} (k ∷ list) order up all =
    let first = in_at (all k (Memᴰ.head refl)) in
    omega (arith, room_for_keys table order first.0 first.1 up (λ j h. all j (Memᴰ.tail h)))

-- "(0 to 255)": a live handle's number is below 256
pub live_below : {s : State} {h : ℕ} → Sound s → Live s.now h → h < most_handles
unfolding slot
live_below {s} {h} i l =
    bool_cases (ltb h most_handles) (λ e. ltb-true h most_handles e)
    (λ e.
    let past : most_handles ≤ h = ltb-false h most_handles e in
    let is_dead : get_or s.now.handles h dead ≡ dead = get_or-eq_default s.now.handles dead (omega (arith, i.handled.slots)) in
    let is_alive : get_or s.now.handles h dead ≡ live l.key_no l.flags_no = l.is_slot in
    let z : ◌≡◌ {A = ℕ} 0 1 = cc in absurd (omega arith))

module _ {p : Policy} {s : State} (r : Reachable p s) where
  -- "At most 1,024 terms."
  pub few_terms : length s.now.table ≤ most_terms
  few_terms = reachable_has FewTerms few_terms_fresh (few_terms_kept p) r

  -- there are 256 handle numbers
  pub handle_numbers : length s.now.handles ≡ most_handles
  handle_numbers = (sound r).handled.slots

  -- "At most 256 live handles"
  pub few_handles : count_live s.now.handles ≤ most_handles
  few_handles = omega (arith, handle_numbers, count_bounded s.now.handles)

  -- "The value 128 must be absent."
  pub no_128 : {k f : ℕ} → live k f ∈ s.now.handles → holds_128 f ≡ false
  no_128 h = reachable_has AllClean (λ x m. rw (fresh_dead m) tt) (clean_kept p) r _ h

  -- so a live handle's flag byte is below 128
  pub flags_below : {k f : ℕ} → live k f ∈ s.now.handles → f < 128
  unfolding holds_128
  flags_below {f = f} h = leb-false 128 f (no_128 h)

  -- "each key is also a term": the keys of the table are exactly those that came into being
  pub keys_are_terms : {k : ℕ} → (k < new_key s.now) ↔ (key k ∈ s.now.table)
  unfolding new_key
  keys_are_terms = ((sound r).counted.counted_keys, (sound r).counted.keys_counted)

  -- the list of known keys has no more numbers than there can be terms
  pub few_known : {list : List ℕ} → KnownList s list → length list ≤ most_terms
  few_known known =
      omega (
        arith,
        few_terms,
        keys_fit _ (keys_in_order r) known.ascending (λ k h. known_in_table (sound r) (known.no_other h)),
      )
