-- What `origin` and `live_count` tell of a token that shows a reachable state: where a key comes from, and how many handles are live.
-- Rests on KnownShown's law for a key's place, and on LiveWords.
use Prim.Native.Nat.{ℕ, zero, suc, ◌<◌, ◌≤◌}
use native.Mathlib.Omega.{arith}
use mathlib.Core.Path.{◌≡◌, refl, ap, ◌∙◌}
use mathlib.Core.Bool.{Bool, true, false}
use mathlib.Core.List.{List, [], ◌∷◌}
use lib.ListN.{length, get_or, get_elem?}
use Rattle.shapes.specs.Entries.{is_own_entry}
use Rattle.terms.proofs.Lists.{bool_cases, in_at, at_in}
use Rattle.rules.specs.State.{State, count_live}
use Rattle.rules.proofs.Sound.{Sound}
use Rattle.shapes.specs.declared.Entry.{Entry}
use Rattle.shapes.specs.declared.Term.TheVariants.{Key}
use Rattle.token.specs.declared.Token.{Token}
use Rattle.std.specs.Prelude.{Some, None}
use Rattle.handles.specs.Live.{count_in}
use Rattle.token.specs.Shows.{Shows, blank_entry, is_own, entry_of, entry_for}
use Rattle.token.specs.Known.{is_key_no, origin_of, origin_in}
use Rattle.handles.proofs.LiveWords.{count_shown}
use Rattle.token.proofs.ApiKnown.{is_key_true, is_key_here, origin_none}
use Rattle.token.proofs.KnownShown.{key_at, key_inside}

-- every entry of key k has this own mark
AllMarked : List Entry → ℕ → Bool → Type 0
AllMarked entries k own = (i : ℕ) → (get_or entries i blank_entry).term ≡ Key (record { 0 = k }) → is_own_entry (get_or entries i blank_entry) ≡ own

-- the first entry of key k tells its origin
origin_found : (entries : List Entry) (k : ℕ) (own : Bool) → AllMarked entries k own → (i : ℕ)
    → (get_or entries i blank_entry).term ≡ Key (record { 0 = k })
    → origin_in entries k ≡ Some (origin_of own)
unfolding origin_in AllMarked
origin_found [] k own all i e = cc
origin_found (x ∷ entries) k own all zero e = rw (is_key_here k x.term e, all 0 e)
origin_found (x ∷ entries) k own all (suc i) e =
    bool_cases (is_key_no k x.term)
    (λ (q : is_key_no k x.term ≡ true). rw (q, all 0 (is_key_true k x.term q)))
    (λ (q : is_key_no k x.term ≡ false). rw q (origin_found entries k own (λ j. all (suc j)) i e))

module _ {t : Token} {s : State} (sound : Sound s) (shown : Shows t s) where
  -- a key that was created has the origin that it was created with
  pub origin_shown : (k : ℕ) → k < length s.now.origins
      → origin_in t.table.entries k ≡ Some (origin_of (is_own (get_elem? s.now.origins k)))
  unfolding entry_of entry_for AllMarked
  origin_shown k created =
      let (i, at, low) = in_at (sound.counted.counted_keys created) in
      let is = shown.entries_shown i (omega (arith, low, shown.room)) in
      origin_found t.table.entries k (is_own (get_elem? s.now.origins k))
      (λ j e.
      let there = key_at shown j k e in
      ap (λ (x : Entry). is_own_entry x) (shown.entries_shown j (key_inside shown j k e)) ∙ rw there refl)
      i (ap (λ (x : Entry). x.term) is ∙ rw at refl)

  -- a number that no command created is no key's
  pub no_origin : (k : ℕ) → length s.now.origins ≤ k → origin_in t.table.entries k ≡ None
  no_origin k not_created =
      origin_none t.table.entries k
      (λ i l e. omega (arith, sound.counted.keys_counted (at_in s.now.table i (key_at shown i k e))))

  -- the live count is that of the state's handles
  pub live_count_shown : count_in t.hands.live ≡ count_live s.now.handles
  live_count_shown = count_shown t.hands.live s.now shown.hands_shown.live_shown sound.handled.slots
