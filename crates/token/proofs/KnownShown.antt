-- The held keys of a token that shows a reachable state are the known list of that state: each key that the caller can work out,
-- once, ascending, and no other. Rests on rules' KeyOrder and Judging.
use Prim.Native.Nat.{ℕ, zero, suc, ◌<◌, ◌≤◌}
use native.Mathlib.Omega.{arith}
use mathlib.Core.Path.{◌≡◌, refl, sym, ap, ◌∙◌}
use mathlib.Core.Bool.{true, false, ◌&&◌, false≢true}
use mathlib.Core.List.Memᴰ
use mathlib.Core.List.{List, [], ◌∷◌}
use mathlib.Core.Option.{Option, none, some}
use lib.Dec.{ltb}
use lib.ListN.{length, get_or, get_elem?, get_or-eq_default}
use borrow.Author.Tests.{ltb-true, ltb-false}
use Rattle.terms.specs.Lists.{◌∈◌}
use Rattle.terms.specs.Terms.{Term, item, key, seal}
use Rattle.terms.proofs.Lists.{bool_cases, at_in, in_at}
use Rattle.terms.specs.Following.{held_by_following}
use Rattle.terms.proofs.Decision.{following_decides}
use Rattle.rules.specs.State.{State, most_terms}
use Rattle.rules.specs.Known.{KnownList, Ascending}
use Rattle.rules.specs.Known.{Ascending}
use Rattle.rules.proofs.Sound.{Sound}
use Rattle.rules.proofs.Judging.{covers, known_in_table}
use Rattle.rules.proofs.KeyOrder.{InOrder}
use Rattle.rules.proofs.Named.{both}
use Rattle.token.specs.declared.Token.{Token}
use Rattle.shapes.specs.declared.Entry.{Entry}
use Rattle.shapes.specs.declared.Term.{Term as Kind}
use Rattle.shapes.specs.declared.Term.TheVariants.{Data, Key, Seal}
use Rattle.token.specs.Shows.{Shows, blank_entry, entry_of, entry_for}
use Rattle.shapes.specs.Entries.{is_key_kind, key_of, is_held}
use Rattle.token.specs.Known.{marked_keys}

-- entry e is key k's, and held
abbrev Marked : Entry → ℕ → Type 0
Marked e k = (e.term ≡ Key (record { 0 = k })) × (is_held e ≡ true)

-- a kind that is a key's is its key number's
key_kind : (kind : Kind) → is_key_kind kind ≡ true → kind ≡ Key (key_of kind)
key_kind Data e = absurd (false≢true e)
key_kind (Key k) e = refl
key_kind (Seal k p) e = absurd (false≢true e)

-- a marked key of the entries is listed
marked_in : (entries : List Entry) (i k : ℕ) → Marked (get_or entries i blank_entry) k → k ∈ marked_keys entries
unfolding marked_keys
marked_in [] i k (e, h) = absurd (false≢true h)
marked_in (x ∷ entries) zero k (e, h) =
    rw (e, h) (Memᴰ.head refl)
marked_in (x ∷ entries) (suc i) k m =
    bool_cases (is_key_kind x.term && is_held x)
    (λ (q : is_key_kind x.term && is_held x ≡ true). rw q (Memᴰ.tail (marked_in entries i k m)))
    (λ (q : is_key_kind x.term && is_held x ≡ false). rw q (marked_in entries i k m))

-- and what is listed is a marked key of the entries
in_marked : (entries : List Entry) (k : ℕ) → k ∈ marked_keys entries → (i : ℕ) × Marked (get_or entries i blank_entry) k
unfolding marked_keys
in_marked [] k m = absurd (Memᴰ.not-nil m)
in_marked (x ∷ entries) k m =
    bool_cases (is_key_kind x.term && is_held x)
    (λ (q : is_key_kind x.term && is_held x ≡ true). at_head q (rw q at m) (in_marked entries k))
    (λ (q : is_key_kind x.term && is_held x ≡ false). let r = in_marked entries k (rw q at m) in (suc r.0, r.1))
  where
    at_head : is_key_kind x.term && is_held x ≡ true
        → k ∈ ((key_of x.term).0 ∷ marked_keys entries)
        → (k ∈ marked_keys entries → (i : ℕ) × Marked (get_or entries i blank_entry) k)
        → (i : ℕ) × Marked (get_or (x ∷ entries) i blank_entry) k
    at_head q (Memᴰ.head e) later =
        let (is_key, is_held_mark) = both _ _ q in
        (0, (key_kind x.term is_key ∙ ap (λ (n : ℕ). Key (record { 0 = n })) (sym e), is_held_mark))
    at_head q (Memᴰ.tail m) later = let r = later m in (suc r.0, r.1)

-- a number below all of an ascending list may stand before it
ascending_cons : (k : ℕ) (list : List ℕ) → ((x : ℕ) → x ∈ list → k < x) → Ascending list → Ascending (k ∷ list)
ascending_cons k [] low up = Ascending.one
ascending_cons k (x ∷ list) low up = Ascending.more (low x (Memᴰ.head refl)) up

-- where key numbers ascend with the entries, the marked keys ascend
KeysAscend : List Entry → Type 0
KeysAscend entries =
    (i j a b : ℕ)
    → (get_or entries i blank_entry).term ≡ Key (record { 0 = a })
    → (get_or entries j blank_entry).term ≡ Key (record { 0 = b })
    → i < j
    → a < b

marked_ascending : (entries : List Entry) → KeysAscend entries → Ascending (marked_keys entries)
unfolding marked_keys KeysAscend
marked_ascending [] up = Ascending.none
marked_ascending (x ∷ entries) up =
    bool_cases (is_key_kind x.term && is_held x)
    (λ (q : is_key_kind x.term && is_held x ≡ true).
    rw q
    (ascending_cons _ _
    (λ b m.
    let r = in_marked entries b m in
    up 0 (suc r.0) (key_of x.term).0 b (key_kind x.term (both _ _ q).0) r.1.0 (omega arith))
    (marked_ascending entries (λ i j a b e f less. up (suc i) (suc j) a b e f (omega arith)))))
    (λ (q : is_key_kind x.term && is_held x ≡ false).
    rw q (marked_ascending entries (λ i j a b e f less. up (suc i) (suc j) a b e f (omega arith))))

-- an entry that is a key's stands beside that key
key_shown : (s : State) (o : Option Term) (k : ℕ) → (entry_for s o).term ≡ Key (record { 0 = k }) → o ≡ some (key k)
unfolding entry_for
key_shown s none k e = cc
key_shown s (some (item n)) k e = cc
key_shown s (some (key j)) k e = ap (λ (kind : Kind). some (key (key_of kind).0)) e
key_shown s (some (seal j m)) k e = cc

module _ {t : Token} {s : State} (shown : Shows t s) where
  -- a key's entry stands inside the table
  pub key_inside : (i k : ℕ) → (get_or t.table.entries i blank_entry).term ≡ Key (record { 0 = k }) → i < most_terms
  key_inside i k e =
      bool_cases (ltb i most_terms) (λ (q : ltb i most_terms ≡ true). ltb-true _ _ q)
      (λ (q : ltb i most_terms ≡ false).
      let past : most_terms ≤ i = ltb-false _ _ q in
      let far : length t.table.entries ≤ i = omega (arith, shown.entries_length) in
      let b = get_or-eq_default t.table.entries blank_entry far in
      absurd (let z : ◌≡◌ {A = ℕ} 0 1 = cc (ap (λ (x : Entry). x.term) b) in omega arith))

  -- and its number in the table is the key's
  pub key_at : (i k : ℕ) → (get_or t.table.entries i blank_entry).term ≡ Key (record { 0 = k }) → get_elem? s.now.table i ≡ some (key k)
  unfolding entry_of
  key_at i k e =
      key_shown s (get_elem? s.now.table i) k
      (ap (λ (x : Entry). x.term) (sym (shown.entries_shown i (key_inside i k e))) ∙ e)

  -- "the list names each key the caller can work out, once, ascending, and no other": of the held keys of a token
  pub known_shown : Sound s → InOrder s.now.table → KnownList s (marked_keys t.table.entries)
  unfolding entry_of entry_for KeysAscend
  known_shown sound order =
      record {
        ascending =
            marked_ascending t.table.entries (λ i j a b e f less. order i j a b (key_at i a e) (key_at j b f) less);
        each =
            λ {k} h.
            let there = known_in_table sound h in
            let (i, at, low) = in_at there in
            let is = shown.entries_shown i (omega (arith, low, shown.room)) in
            let held = (following_decides (covers sound) there).1 h in
            marked_in t.table.entries i k
            (ap (λ (x : Entry). x.term) is ∙ rw at refl, ap (λ (x : Entry). is_held x) is ∙ rw at held);
        no_other =
            λ {k} m.
            let r = in_marked t.table.entries k m in
            let at = key_at r.0 k r.1.0 in
            let is = shown.entries_shown r.0 (key_inside r.0 k r.1.0) in
            let marked : held_by_following s.past.own s.past.given s.now.table (key k) ≡ true =
            rw at at (sym (ap (λ (x : Entry). is_held x) is) ∙ r.1.1) in
            (following_decides (covers sound) (at_in s.now.table r.0 at)).0 marked;
      }
