-- What entries and slots show is kept when the token's table and its origins only grow: a term keeps its number, a key its
-- origin, a live handle its slot. And one more entry stands beside one more term. Rests on the rules crate's Sound.
use Prim.Native.Nat.{ℕ, zero, suc, ◌<◌}
use native.Mathlib.Decide.{ℕ_discrete}
use mathlib.Core.Path.{◌≡◌, refl, sym, ap, ◌∙◌}
use mathlib.Core.List.{List, [], ◌∷◌, ◌++◌}
use mathlib.Core.Logic.{by_cases}
use mathlib.Core.Option.{Option, none, some}
use lib.ListN.{length, get_or, get_elem?, set}
use lib.Seq.{get_or-set_same, get_or-set_other}
use Rattle.shapes.specs.Entries.{is_held, is_own_entry}
use Rattle.terms.specs.Lists.{◌∈◌}
use Rattle.terms.specs.Terms.{Term, Table, item, key, seal, number_of}
use Rattle.terms.proofs.Lists.{at_in, below_at, at_end}
use Rattle.terms.proofs.Terms.{number_at}
use Rattle.rules.specs.State.{State, Now, dead, live}
use Rattle.rules.specs.State.{Slot as Handle}
use Rattle.rules.proofs.Sound.{Sound}
use Rattle.rules.proofs.ShapeKept.{parts_in}
use Rattle.shapes.specs.declared.Term.TheVariants.{Seal}
use Rattle.shapes.specs.declared.Entry.{Entry}
use Rattle.token.specs.Shows.{blank_entry, is_own, slot_for}
use Rattle.running.proofs.MarksKept.{mark}
use Rattle.running.proofs.ShownParts.{kind_for, held_for, own_for, TermsShown, MarksShown}

-- the first list extends the second: it has at each place what the second has there
abbrev pub Extends : {A : Type 0} → (more less : List A) → Type 0
Extends {A} more less = (i : ℕ) (x : A) → get_elem? less i ≡ some x → get_elem? more i ≡ some x

pub record Grows (now next : Now) : Type 0 where
  pub table_more : Extends next.table now.table
  pub origins_more : Extends next.origins now.origins

module _ {s s' : State} (i : Sound s) (i' : Sound s') (grows : Grows s.now s'.now) where
  -- a term of the table keeps its number
  pub number_kept : {m : Term} → m ∈ s.now.table → number_of s'.now.table m ≡ number_of s.now.table m
  number_kept {m} h =
      let old = grows.table_more (number_of s.now.table m) m (number_at h) in
      i'.counted.shape.once (number_at (at_in s'.now.table (number_of s.now.table m) old)) old

  -- and the kind of its entry
  kind_kept : (n : ℕ) (x : Option Term) → get_elem? s.now.table n ≡ x →
      kind_for s.now.table x ≡ kind_for s'.now.table x
  unfolding kind_for
  kind_kept n none e = refl
  kind_kept n (some (item m)) e = refl
  kind_kept n (some (key k)) e = refl
  kind_kept n (some (seal k m)) e =
      ap (λ (p : ℕ). Seal (record { 0 = k }) (record { 0 = p }))
      (sym (number_kept (parts_in i.counted.shape (at_in s.now.table n e)).1))

  -- a key of the table keeps its origin
  own_kept : (n : ℕ) (x : Option Term) → get_elem? s.now.table n ≡ x →
      own_for s.now.origins x ≡ own_for s'.now.origins x
  unfolding own_for
  own_kept n none e = refl
  own_kept n (some (item m)) e = refl
  own_kept n (some (key k)) e =
      let a = below_at s.now.origins k (i.counted.keys_counted (at_in s.now.table n e)) in
      ap is_own (a.1 ∙ sym (grows.origins_more k a.0 a.1))
  own_kept n (some (seal k m)) e = refl

  -- the entries show the same terms of the token as it is now
  pub terms_kept : {entries : List Entry} → TermsShown entries s.now.table s.now →
      TermsShown entries s.now.table s'.now
  terms_kept shown =
      record {
        kinds = λ n. shown.kinds n ∙ kind_kept n (get_elem? s.now.table n) refl;
        owns = λ n. shown.owns n ∙ own_kept n (get_elem? s.now.table n) refl;
      }

  -- a handle keeps its slot
  pub slot_kept : (x : Handle) → ((k f : ℕ) → x ≡ live k f → live k f ∈ s.now.handles) →
      slot_for s.now.table x ≡ slot_for s'.now.table x
  unfolding slot_for
  slot_kept dead there = refl
  slot_kept (live k f) there =
      ap (λ (n : ℕ). record { key = record { 0 = k }; term = record { 0 = n }; flags = f })
      (sym (number_kept (i.handled.live_key (there k f refl))))

-- a term is held in both states, where its mark is the same
held_kept : (s s' : State) (terms : Table) → ((k : ℕ) → key k ∈ terms → mark s k ≡ mark s' k) → (n : ℕ) (x : Option Term) →
    get_elem? terms n ≡ x → held_for s x ≡ held_for s' x
unfolding held_for
held_kept s s' terms same n none e = refl
held_kept s s' terms same n (some (item m)) e = refl
held_kept s s' terms same n (some (key k)) e = same k (at_in terms n e)
held_kept s s' terms same n (some (seal k m)) e = refl

-- where every key has the same mark in both states, the entries show the marks of the second, too
pub marks_kept : (s s' : State) {entries : List Entry} {terms : Table} → ((k : ℕ) → key k ∈ terms → mark s k ≡ mark s' k) →
    MarksShown entries terms s → MarksShown entries terms s'
marks_kept s s' {terms = terms} same shown =
    record { holds = λ n. shown.holds n ∙ held_kept s s' terms same n (get_elem? terms n) refl }

-- past its length, a list with one thing more reads as it did
at_other : {A : Type 0} (l : List A) (y : A) (i : ℕ) → ¬ (i ≡ length l) → get_elem? (l ++ y ∷ []) i ≡ get_elem? l i
at_other [] y zero ne = absurd (ne refl)
at_other [] y (suc i) ne = refl
at_other (x ∷ l) y zero ne = refl
at_other (x ∷ l) y (suc i) ne = at_other l y i (λ e. ne (ap suc e))

module _ (entries : List Entry) (terms : Table) (m : Term) (e : Entry) (inside : length terms < length entries) where
  -- one more entry beside one more term: what is read of the entries and what of the terms stays alike
  read_appended : {A : Type 0} (read : Entry → A) (of : Option Term → A) → read e ≡ of (some m) →
      ((i : ℕ) → read (get_or entries i blank_entry) ≡ of (get_elem? terms i)) →
      (i : ℕ) → read (get_or (set entries (length terms) e) i blank_entry) ≡ of (get_elem? (terms ++ m ∷ []) i)
  read_appended {A} read of new old i = by_cases (ℕ_discrete i (length terms)) here other
    where
      here : i ≡ length terms → read (get_or (set entries (length terms) e) i blank_entry) ≡ of (get_elem? (terms ++ m ∷ []) i)
      here q = rw (q, get_or-set_same, at_end) new

      other : ¬ (i ≡ length terms) → read (get_or (set entries (length terms) e) i blank_entry) ≡ of (get_elem? (terms ++ m ∷ []) i)
      other q = rw (get_or-set_other, at_other) (old i)

  -- one more entry beside one more term shows the terms
  pub terms_appended : {now : Now} → e.term ≡ kind_for now.table (some m) → is_own_entry e ≡ own_for now.origins (some m) →
      TermsShown entries terms now → TermsShown (set entries (length terms) e) (terms ++ m ∷ []) now
  terms_appended {now} ek eo shown =
      record {
        kinds = read_appended (λ (x : Entry). x.term) (kind_for now.table) ek shown.kinds;
        owns = read_appended (λ (x : Entry). is_own_entry x) (own_for now.origins) eo shown.owns;
      }

  -- and the marks
  pub marks_appended : {s : State} → is_held e ≡ held_for s (some m) → MarksShown entries terms s →
      MarksShown (set entries (length terms) e) (terms ++ m ∷ []) s
  marks_appended {s} eh shown = record { holds = read_appended (λ (x : Entry). is_held x) (held_for s) eh shown.holds }
