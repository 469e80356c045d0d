-- The book-keeping of Sound is kept by each small change, or by two that go together: a term entered and given, a key counted
-- and entered. What each asks is said of lists. Rests on Sound and ShapeKept.
use Prim.Native.Nat.{ℕ, ◌<◌, ◌+◌}
use native.Mathlib.Nat.{eq-or-lt_of_le}
use native.Mathlib.Omega.{arith}
use mathlib.Core.Path.{◌≡◌, sym, ap, subst, ◌∙◌}
use mathlib.Core.Logic.{◌⊎◌, inl, inr, ⊎_elim}
use mathlib.Core.List.Memᴰ
use mathlib.Core.List.{[], ◌∷◌, ◌++◌}
use mathlib.Core.Option.{some}
use lib.ListN.{get_elem?, length, length-append, length-set}
use Rattle.terms.specs.Lists.{◌∈◌}
use Rattle.terms.specs.Terms.{Term, Table, item, key, seal, enter}
use Rattle.terms.specs.Compromise.{◌under◌}
use Rattle.terms.proofs.Covers.{DataInside}
use Rattle.terms.proofs.Lists.{at_append, in_set}
use Rattle.terms.proofs.Terms.{in_enter, enter_in, enter_cases}
use Rattle.rules.specs.State.{State, Slot, dead, live, Origin, own, generated, ◌born◌, new_key}
use Rattle.rules.specs.Changes.{Change, enters, binds, counts_key, counts_item, owns, gives, corrupts, wraps, bears}
use Rattle.rules.specs.Changes.{change_now, change_past}
use Rattle.rules.proofs.Sound.{Sound}
use Rattle.rules.proofs.ShapeKept.{PartsIn, shape_enter}

-- the state with one change made
abbrev pub with_change : Change → State → State
with_change x s = record { now = change_now x s.now; past = change_past x s.past }

-- a handle number may be bound to a key of the table, or set free
abbrev pub SlotFits : Table → Slot → Type 0
SlotFits table dead = Unit {0}
SlotFits table (live k f) = key k ∈ table

-- a term may be answered: a data item that is counted, a key of the table, a seal whose two parts are in the table
abbrev pub MayAnswer : Table → (items : ℕ) → Term → Type 0
MayAnswer table items (item n) = n < items
MayAnswer table items (key k) = key k ∈ table
MayAnswer table items (seal k m) = (key k ∈ table) × (m ∈ table)

-- the parts of a term that may be answered are in the table
answer_parts : (table : Table) (items : ℕ) (m : Term) → MayAnswer table items m → PartsIn table m
answer_parts table items (item n) may = tt
answer_parts table items (key k) may = tt
answer_parts table items (seal k m) may = may

-- an item is no key, and a seal is none
pub item_not_key : {n k : ℕ} → ¬ (item n ≡ key k)
item_not_key e = let z : ◌≡◌ {A = ℕ} 0 1 = cc in omega arith

seal_not_key : {j k : ℕ} {m : Term} → ¬ (seal j m ≡ key k)
seal_not_key e = let z : ◌≡◌ {A = ℕ} 0 1 = cc in omega arith

module _ {s : State} (i : Sound s) where
  -- a handle number is bound or set free
  pub sound_binds : (h : ℕ) (x : Slot) → SlotFits s.now.table x → Sound (with_change (binds h x) s)
  unfolding change_now change_past
  sound_binds h x fits =
      record {
        counted = i.counted;
        handled =
            record {
              slots = length-set s.now.handles h x ∙ i.handled.slots;
              live_key = λ {k} {f} m. ⊎_elim (λ (e : live k f ≡ x). subst (SlotFits s.now.table) (sym e) fits) (λ l. i.handled.live_key l)
                  (in_set s.now.handles h x m);
            };
        passed = i.passed;
        births = i.births;
      }

  -- a term is entered and given
  pub sound_answers : (m : Term) → MayAnswer s.now.table s.now.items m →
      Sound (with_change (gives m) (with_change (enters m) s))
  unfolding change_now change_past
  sound_answers m may =
      record {
        counted =
            record {
              shape = shape_enter table m (answer_parts table s.now.items m may) i.counted.shape;
              keys_counted = λ h. i.counted.keys_counted (⊎_elim (λ o. o) (λ e. was e) (enter_cases table m h));
              counted_keys = λ h. in_enter table m (i.counted.counted_keys h);
              items_counted = λ {n} h. ⊎_elim (λ o. i.counted.items_counted o)
                  (λ (e : item n ≡ m). subst (MayAnswer table s.now.items) (sym e) may) (enter_cases table m h);
            };
        handled =
            record {
              slots = i.handled.slots;
              live_key = λ h. in_enter table m (i.handled.live_key h);
            };
        passed =
            record {
              items_given = λ h. ⊎_elim (λ o. Memᴰ.tail (i.passed.items_given o)) Memᴰ.head (enter_cases table m h);
              seals_given = λ h. ⊎_elim (λ o. Memᴰ.tail (i.passed.seals_given o)) Memᴰ.head (enter_cases table m h);
              own_given = λ h. Memᴰ.tail (i.passed.own_given h);
              given_in = λ h. ⊎_elim (λ e. inl (Memᴰ.cast e (enter_in table m))) (λ o. more (i.passed.given_in o)) (Memᴰ.cases_cons h);
              corrupted_given = λ h. Memᴰ.tail (i.passed.corrupted_given h);
              wrap_sealed = λ h. in_enter table m (i.passed.wrap_sealed h);
            };
        births = i.births;
      }
    where
      table : Table
      table = s.now.table

      was : {k : ℕ} → key k ≡ m → key k ∈ table
      was e = subst (MayAnswer table s.now.items) (sym e) may

      more : {x : Term} → (x ∈ table) ⊎ DataInside x → (x ∈ enter table m) ⊎ DataInside x
      more = ⊎_elim (λ o. inl (in_enter table m o)) inr

  -- a key is counted, whatever its origin, and entered
  pub sound_key : (o : Origin) → Sound (with_change (enters (key (new_key s.now))) (with_change (counts_key o) s))
  unfolding change_now change_past new_key
  sound_key o =
      record {
        counted =
            record {
              shape = shape_enter table new tt i.counted.shape;
              keys_counted = λ {k} h.
                  ⊎_elim (λ t. below_more (i.counted.keys_counted t)) (λ (e : key k ≡ new). let q : k ≡ keys = cc in omega (arith, one_more))
                  (enter_cases table new h);
              counted_keys = λ {k} h.
                  ⊎_elim (λ (e : k ≡ keys). rw e (enter_in table new)) (λ l. in_enter table new (i.counted.counted_keys l))
                  (eq-or-lt_of_le {n = k} {m = keys} (omega (arith, one_more)));
              items_counted = λ h. i.counted.items_counted (was item_not_key h);
            };
        handled =
            record {
              slots = i.handled.slots;
              live_key = λ h. in_enter table new (i.handled.live_key h);
            };
        passed =
            record {
              items_given = λ h. i.passed.items_given (was item_not_key h);
              seals_given = λ h. i.passed.seals_given (was seal_not_key h);
              own_given = i.passed.own_given;
              given_in = λ h. ⊎_elim (λ t. inl (in_enter table new t)) inr (i.passed.given_in h);
              corrupted_given = i.passed.corrupted_given;
              wrap_sealed = λ h. in_enter table new (i.passed.wrap_sealed h);
            };
        births =
            record {
              own_origin = λ {k} h. at_append s.now.origins (o ∷ []) k (i.births.own_origin h);
              birth_origin = λ {k} h. at_append s.now.origins (o ∷ []) k (i.births.birth_origin h);
              one_birth = i.births.one_birth;
            };
      }
    where
      table : Table
      table = s.now.table

      keys : ℕ
      keys = length s.now.origins

      new : Term
      new = key keys

      one_more : length (s.now.origins ++ o ∷ []) ≡ keys + 1
      one_more = length-append s.now.origins (o ∷ [])

      below_more : {k : ℕ} → k < keys → k < length (s.now.origins ++ o ∷ [])
      below_more l = omega (arith, one_more)

      was : {x : Term} → ¬ (x ≡ new) → x ∈ enter table new → x ∈ table
      was other h = ⊎_elim (λ t. t) (λ e. absurd (other e)) (enter_cases table new h)

  -- a data item is counted
  pub sound_item : Sound (with_change counts_item s)
  unfolding change_now change_past
  sound_item =
      record {
        counted =
            record {
              shape = i.counted.shape;
              keys_counted = i.counted.keys_counted;
              counted_keys = i.counted.counted_keys;
              items_counted = λ {n} h. let l : n < s.now.items = i.counted.items_counted h in omega arith;
            };
        handled = i.handled;
        passed = i.passed;
        births = i.births;
      }

  -- a term of the table is given
  pub sound_gives : (m : Term) → m ∈ s.now.table → Sound (with_change (gives m) s)
  unfolding change_now change_past
  sound_gives m there =
      record {
        counted = i.counted;
        handled = i.handled;
        passed =
            record {
              items_given = λ h. Memᴰ.tail (i.passed.items_given h);
              seals_given = λ h. Memᴰ.tail (i.passed.seals_given h);
              own_given = λ h. Memᴰ.tail (i.passed.own_given h);
              given_in = λ h. ⊎_elim (λ e. inl (Memᴰ.cast e there)) (λ g. i.passed.given_in g) (Memᴰ.cases_cons h);
              corrupted_given = λ h. Memᴰ.tail (i.passed.corrupted_given h);
              wrap_sealed = i.passed.wrap_sealed;
            };
        births = i.births;
      }

  -- a term that was given is the caller's own: an item, or a key of that origin
  pub sound_owns : (m : Term) → m ∈ s.past.given → ((k : ℕ) → key k ≡ m → get_elem? s.now.origins k ≡ some own) →
      Sound (with_change (owns m) s)
  unfolding change_now change_past
  sound_owns m was_given origin =
      record {
        counted = i.counted;
        handled = i.handled;
        passed =
            record {
              items_given = i.passed.items_given;
              seals_given = i.passed.seals_given;
              own_given = λ h. ⊎_elim (λ e. Memᴰ.cast e was_given) (λ o. i.passed.own_given o) (Memᴰ.cases_cons h);
              given_in = i.passed.given_in;
              corrupted_given = i.passed.corrupted_given;
              wrap_sealed = i.passed.wrap_sealed;
            };
        births =
            record {
              own_origin = λ {k} h. ⊎_elim (origin k) (λ o. i.births.own_origin o) (Memᴰ.cases_cons h);
              birth_origin = i.births.birth_origin;
              one_birth = i.births.one_birth;
            };
      }

  -- a key that was given is corrupted
  pub sound_corrupts : (k : ℕ) → key k ∈ s.past.given → Sound (with_change (corrupts k) s)
  unfolding change_now change_past
  sound_corrupts k was_given =
      record {
        counted = i.counted;
        handled = i.handled;
        passed =
            record {
              items_given = i.passed.items_given;
              seals_given = i.passed.seals_given;
              own_given = i.passed.own_given;
              given_in = i.passed.given_in;
              corrupted_given = λ h. ⊎_elim (λ e. Memᴰ.cast (ap key e) was_given) (λ o. i.passed.corrupted_given o) (Memᴰ.cases_cons h);
              wrap_sealed = i.passed.wrap_sealed;
            };
        births = i.births;
      }

  -- a WRAP is done, and its seal is in the table
  pub sound_wraps : (j k : ℕ) → seal k (key j) ∈ s.now.table → Sound (with_change (wraps (j under k)) s)
  unfolding change_now change_past
  sound_wraps j k there =
      record {
        counted = i.counted;
        handled = i.handled;
        passed =
            record {
              items_given = i.passed.items_given;
              seals_given = i.passed.seals_given;
              own_given = i.passed.own_given;
              given_in = i.passed.given_in;
              corrupted_given = i.passed.corrupted_given;
              wrap_sealed = λ {j = j'} {k = k'} h. ⊎_elim (λ (e : j' under k' ≡ j under k). Memᴰ.cast {a = seal k' (key j')} (cc) there)
                  (λ o. i.passed.wrap_sealed o) (Memᴰ.cases_cons h);
            };
        births = i.births;
      }

  -- a key is generated with a flag byte, for the first time
  pub sound_bears : (k f : ℕ) → get_elem? s.now.origins k ≡ some generated → ((g : ℕ) → ¬ ((k born g) ∈ s.past.births)) →
      Sound (with_change (bears (k born f)) s)
  unfolding change_now change_past
  sound_bears k f origin first =
      record {
        counted = i.counted;
        handled = i.handled;
        passed = i.passed;
        births =
            record {
              own_origin = i.births.own_origin;
              birth_origin = λ {k = j} {f = g} h. ⊎_elim (λ (e : j born g ≡ k born f). let q : j ≡ k = cc in rw q origin) (λ o. i.births.birth_origin o)
                  (Memᴰ.cases_cons h);
              one_birth = λ {k = j} {f = g} {g = g'} a b. one j g g' (Memᴰ.cases_cons a) (Memᴰ.cases_cons b);
            };
      }
    where
      one : (j g g' : ℕ) → (j born g ≡ k born f) ⊎ ((j born g) ∈ s.past.births) →
          (j born g' ≡ k born f) ⊎ ((j born g') ∈ s.past.births) → g ≡ g'
      one j g g' (inl e) (inl e') = cc
      one j g g' (inl e) (inr o) = let q : k ≡ j = cc in absurd (first g' (rw q o))
      one j g g' (inr o) (inl e) = let q : k ≡ j = cc in absurd (first g (rw q o))
      one j g g' (inr o) (inr o') = i.births.one_birth o o'
