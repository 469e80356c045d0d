-- The equal of a seal that a command would make, where the token shows a state: it is found at its number where it is in the
-- table, and is new where it is not. Rests on Codes, Seen and the rules crate's Sound.
use Rattle.shapes.specs.declared.TermNo.{TermNo}
use Rattle.std.specs.Prelude.{None, Option, Some}
use Prim.Native.Nat.{ℕ, ◌<◌}
use native.Mathlib.Omega.{arith}
use mathlib.Core.Path.{◌≡◌, refl, sym, ap, ◌∙◌}
use mathlib.Core.Bool.{true, false, cond}
use mathlib.Core.Option.{Option as Maybe, none, some}
use lib.ListN.{get_or, get_elem?}
use Rattle.terms.specs.Lists.{◌∈◌}
use Rattle.terms.specs.Terms.{Term, Table, item, key, seal, listed, number_of}
use Rattle.terms.proofs.Lists.{bool_cases, at_in}
use Rattle.terms.proofs.Terms.{number_at, listed_true, listed_false}
use Rattle.rules.specs.State.{State, most_terms}
use Rattle.rules.proofs.Sound.{Sound}
use Rattle.shapes.specs.declared.Entry.{Entry}
use Rattle.token.specs.declared.Token.{Token}
use Rattle.token.specs.Shows.{entry_for, entry_of, seal_code, code_of, Shows}
use Rattle.running.specs.Views.{equal_in}
use Rattle.running.proofs.Codes.{equal_found, equal_none, seal_code_same}
use Rattle.running.proofs.Seen.{number_below, number_one}

-- the equal that is seen for a term that may be in the table
unfoldable pub equal_for : Table → Term → Option TermNo
equal_for table m = cond (listed table m) (Some (record { 0 = number_of table m })) None

module _ {t : Token} {s : State} (sound : Sound s) (shows : Shows t s) where
  -- the code of a number is the code of the entry beside its term
  code_at : (i : ℕ) {x : Maybe Term} → i < most_terms → get_elem? s.now.table i ≡ x →
      get_or t.links.codes i 0 ≡ code_of (entry_for s x).term
  unfolding entry_of
  code_at i {x} l e =
      shows.links_shown.codes_shown i l ∙ ap (λ (y : Entry). code_of y.term) (shows.entries_shown i l) ∙
      ap (λ (y : Maybe Term). code_of (entry_for s y).term) e

  -- a term whose entry has the code of a seal is that seal
  seal_at : (i k : ℕ) {m : Term} (x : Maybe Term) → m ∈ s.now.table → get_elem? s.now.table i ≡ x →
      code_of (entry_for s x).term ≡ seal_code k (number_of s.now.table m) → get_elem? s.now.table i ≡ some (seal k m)
  unfolding entry_for code_of
  seal_at i k none h at e = absurd (omega arith)
  seal_at i k (some (item n)) h at e = absurd (omega arith)
  seal_at i k (some (key n)) h at e = absurd (omega arith)
  seal_at i k {m} (some (seal j m')) h at e =
      let earlier = sound.counted.shape.payload_earlier {i = i} at in
      let h' : m' ∈ s.now.table = at_in s.now.table earlier.place earlier.is_there in
      let room = shows.room in
      let parts : (j ≡ k) × (number_of s.now.table m' ≡ number_of s.now.table m) =
      seal_code_same j _ k _ (omega (arith, number_below h')) (omega (arith, number_below h)) e in
      let same : m' ≡ m = number_one h' h parts.1 in
      cc

  -- the equal of a seal of a term of the table
  pub equal_seen : (k : ℕ) {m : Term} → m ∈ s.now.table →
      equal_in t.links.codes (seal_code k (number_of s.now.table m)) ≡ equal_for s.now.table (seal k m)
  unfolding equal_for entry_for code_of
  equal_seen k {m} h =
      bool_cases (listed s.now.table (seal k m))
      (λ (e : listed s.now.table (seal k m) ≡ true). rw e (found (listed_true _ _ e)))
      (λ (e : listed s.now.table (seal k m) ≡ false).
      rw e (equal_none _ _ (λ j l q. listed_false _ _ e (at_in s.now.table j (seal_of j l q)))))
    where
      seal_of : (j : ℕ) → j < most_terms → get_or t.links.codes j 0 ≡ seal_code k (number_of s.now.table m) →
          get_elem? s.now.table j ≡ some (seal k m)
      seal_of j l q = seal_at j k (get_elem? s.now.table j) h refl (sym (code_at j l refl) ∙ q)

      found : seal k m ∈ s.now.table →
          equal_in t.links.codes (seal_code k (number_of s.now.table m)) ≡
          Some (record { 0 = number_of s.now.table (seal k m) })
      found there =
          let room = shows.room in
          let fits : number_of s.now.table (seal k m) < most_terms = omega (arith, number_below there) in
          equal_found _ _ _ fits (code_at _ fits (number_at there))
          (λ j l q. sound.counted.shape.once {i = j} (seal_of j l q) (number_at there))
