-- The entries of a table from the front: the known keys among them, and the first entry of a key.
-- Rests on the definitions alone.
use Prim.Native.Nat.{ℕ, zero, suc, ◌<◌}
use mathlib.Core.Path.{◌≡◌, refl, sym, ap, subst, ◌∙◌}
use mathlib.Core.Bool.{true, false, false≢true}
use mathlib.Core.Logic.{◌≢◌}
use mathlib.Core.List.{List, [], ◌∷◌}
use native.Mathlib.Omega.{arith}
use lib.ListN.{length, get_or}
use borrow.Author.Tests.{eqb-true, eq-eqb}
use Rattle.std.specs.Prelude.{Some, None, filter, map}
use Rattle.std.proofs.lemmas.List.{length-map}
use Rattle.terms.proofs.Lists.{bool_cases}
use Rattle.shapes.specs.declared.Entry.{Entry}
use Rattle.shapes.specs.declared.Term.{Term as Kind}
use Rattle.shapes.specs.declared.Term.TheVariants.{Data, Key, Seal}
use Rattle.shapes.specs.Entries.{key_of, is_own_entry}
use Rattle.token.specs.Shows.{blank_entry}
use Rattle.token.specs.Known.{is_marked, marked_keys, is_key_no, origin_of, origin_in}

-- the known keys are the numbers of the entries that pass the test
pub marked_filter : (entries : List Entry) → marked_keys entries ≡ map (λ e. (key_of e.term).0) (filter is_marked entries)
unfolding marked_keys
marked_filter [] = refl
marked_filter (e ∷ entries) =
    bool_cases (is_marked e) (λ (q : is_marked e ≡ true). rw q (ap (λ list. (key_of e.term).0 ∷ list) (marked_filter entries)))
    (λ (q : is_marked e ≡ false). rw q (marked_filter entries))

pub marked_count : (entries : List Entry) → length (marked_keys entries) ≡ length (filter is_marked entries)
marked_count entries = ap length (marked_filter entries) ∙ length-map (filter is_marked entries) _

-- a kind is key number k's, or it is not
pub is_key_true : (k : ℕ) (kind : Kind) → is_key_no k kind ≡ true → kind ≡ Key (record { 0 = k })
unfolding is_key_no
is_key_true k Data e = absurd (false≢true e)
is_key_true k (Key j) e = ap (λ (n : ℕ). Key (record { 0 = n })) (eqb-true j.0 k e)
is_key_true k (Seal j p) e = absurd (false≢true e)

pub is_key_here : (k : ℕ) (kind : Kind) → kind ≡ Key (record { 0 = k }) → is_key_no k kind ≡ true
unfolding is_key_no
is_key_here k kind e = subst (λ (x : Kind). is_key_no k x ≡ true) (sym e) (eq-eqb k k refl)

-- the first entry of key k tells its origin
origin_first : (entries : List Entry) (k i : ℕ) → (get_or entries i blank_entry).term ≡ Key (record { 0 = k })
    → ((j : ℕ) → j < i → (get_or entries j blank_entry).term ≢ Key (record { 0 = k }))
    → origin_in entries k ≡ Some (origin_of (is_own_entry (get_or entries i blank_entry)))
unfolding origin_in
origin_first [] k i e before = cc
origin_first (x ∷ entries) k zero e before = rw (is_key_here k x.term e)
origin_first (x ∷ entries) k (suc i) e before =
    bool_cases (is_key_no k x.term)
    (λ (q : is_key_no k x.term ≡ true). absurd (before 0 (omega arith) (is_key_true k x.term q)))
    (λ (q : is_key_no k x.term ≡ false). rw q (origin_first entries k i e (λ j l. before (suc j) (omega arith))))

pub origin_told : (entries : List Entry) (k : ℕ) (e : Entry)
    → (i : ℕ) × (e ≡ get_or entries i blank_entry) × (e.term ≡ Key (record { 0 = k }))
    × ((j : ℕ) → j < i → (get_or entries j blank_entry).term ≢ Key (record { 0 = k }))
    → Some (origin_of (is_own_entry e)) ≡ origin_in entries k
origin_told entries k e (i, same, is, before) = sym (rw same (origin_first entries k i (rw same at is) before))

-- and where no entry is key k's there is no such key
pub origin_none : (entries : List Entry) (k : ℕ)
    → ((i : ℕ) → i < length entries → (get_or entries i blank_entry).term ≢ Key (record { 0 = k }))
    → origin_in entries k ≡ None
unfolding origin_in
origin_none [] k no_entry = refl
origin_none (x ∷ entries) k no_entry =
    bool_cases (is_key_no k x.term)
    (λ (q : is_key_no k x.term ≡ true). absurd (no_entry 0 (omega arith) (is_key_true k x.term q)))
    (λ (q : is_key_no k x.term ≡ false). rw q (origin_none entries k (λ i l. no_entry (suc i) (omega arith))))
