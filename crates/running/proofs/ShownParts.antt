-- The three parts of an entry, each for itself: the kind of its term, whether it is held, whether it is the caller's own. What a
-- token shows is taken apart into them, and put together from them. Rests on the definitions alone.
use Prim.Native.Nat.{ℕ, zero, suc, ◌≤◌}
use native.Mathlib.Nat.{not-suc-le-zero, le_of_suc-le-suc}
use native.Mathlib.Omega.{arith}
use mathlib.Core.Path.{◌≡◌, refl, sym, ap, ◌∙◌}
use mathlib.Core.Bool.{Bool, true, false}
use mathlib.Core.List.{List, [], ◌∷◌}
use mathlib.Core.Option.{Option, none, some}
use lib.Dec.{ltb}
use lib.ListN.{length, get_or, get_elem?, get_or-eq_default}
use borrow.Author.Tests.{ltb-true, ltb-false}
use Rattle.shapes.specs.Entries.{is_held, is_own_entry}
use Rattle.terms.specs.Terms.{Term, Table, item, key, seal, number_of}
use Rattle.terms.proofs.Lists.{bool_cases}
use Rattle.rules.specs.State.{State, Now, Origin, most_terms}
use Rattle.shapes.specs.declared.Term.{Term as Kind}
use Rattle.shapes.specs.declared.Term.TheVariants.{Data, Key, Seal}
use Rattle.shapes.specs.declared.Entry.{Entry}
use Rattle.token.specs.declared.Table.{Table as Stored}
use Rattle.token.specs.declared.Token.{Token}
use Rattle.token.specs.Shows.{Shows, ShowsLinks, ShowsHands, blank_entry, entry, is_own, entry_for, entry_of}
use Rattle.running.specs.Leaks.{kind_at, held_at}
use Rattle.running.proofs.MarksKept.{mark}

-- the kind of the entry beside a term
unfoldable pub kind_for : Table → Option Term → Kind
kind_for table none = Data
kind_for table (some (item n)) = Data
kind_for table (some (key k)) = Key (record { 0 = k })
kind_for table (some (seal k m)) = Seal (record { 0 = k }) (record { 0 = number_of table m })

-- its mark of what is held
unfoldable pub held_for : State → Option Term → Bool
held_for s none = false
held_for s (some (item n)) = true
held_for s (some (key k)) = mark s k
held_for s (some (seal k m)) = true

-- its mark of what is the caller's own
unfoldable pub own_for : List Origin → Option Term → Bool
own_for origins none = false
own_for origins (some (item n)) = true
own_for origins (some (key k)) = is_own (get_elem? origins k)
own_for origins (some (seal k m)) = false

-- an entry is made of these three
entry_parts : (s : State) (x : Option Term) →
    entry_for s x ≡ entry (kind_for s.now.table x) (held_for s x) (own_for s.now.origins x)
unfolding entry_for kind_for held_for own_for
entry_parts s none = refl
entry_parts s (some (item n)) = refl
entry_parts s (some (key k)) = refl
entry_parts s (some (seal k m)) = refl

-- whether number i is the caller's own
abbrev pub own_at : List Entry → ℕ → Bool
own_at entries i = is_own_entry (get_or entries i blank_entry)

-- the entries stand beside a list of terms: each has its term's kind, with the numbers of the token as it is now, and tells
-- whether the term is the caller's own
pub record TermsShown (entries : List Entry) (terms : Table) (now : Now) : Type 0 where
  pub kinds : (i : ℕ) → kind_at entries i ≡ kind_for now.table (get_elem? terms i)
  pub owns : (i : ℕ) → own_at entries i ≡ own_for now.origins (get_elem? terms i)

-- each tells whether its term is held in the state
pub record MarksShown (entries : List Entry) (terms : Table) (s : State) : Type 0 where
  pub holds : (i : ℕ) → held_at entries i ≡ held_for s (get_elem? terms i)

-- nothing stands past the end of a list
pub none_past : {A : Type 0} (l : List A) (i : ℕ) → length l ≤ i → get_elem? l i ≡ none
none_past [] i h = refl
none_past (x ∷ l) zero h = absurd (not-suc-le-zero h)
none_past (x ∷ l) (suc i) h = none_past l i (le_of_suc-le-suc h)

module _ {t : Token} {s : State} (shows : Shows t s) where
  -- each entry, past the last one too, is the one beside its term
  pub each_entry : (i : ℕ) → get_or t.table.entries i blank_entry ≡ entry_of s i
  unfolding entry_of entry_for
  each_entry i =
      bool_cases (ltb i most_terms) (λ e. shows.entries_shown i (ltb-true i most_terms e))
      (λ e.
      let past : most_terms ≤ i = ltb-false i most_terms e in
      let none_there : get_elem? s.now.table i ≡ none = none_past s.now.table i (omega (arith, shows.room)) in
      get_or-eq_default t.table.entries blank_entry (omega (arith, shows.entries_length))
      ∙ sym (ap (entry_for s) none_there))

  -- each entry's three parts
  parts : (i : ℕ) → get_or t.table.entries i blank_entry ≡
      entry (kind_for s.now.table (get_elem? s.now.table i)) (held_for s (get_elem? s.now.table i))
      (own_for s.now.origins (get_elem? s.now.table i))
  unfolding entry_of
  parts i = each_entry i ∙ entry_parts s (get_elem? s.now.table i)

  -- a token that shows a state shows its terms
  terms_of : TermsShown t.table.entries s.now.table s.now
  terms_of =
      record {
        kinds = λ i. ap (λ (e : Entry). e.term) (parts i);
        owns = λ i. ap (λ (e : Entry). is_own_entry e) (parts i);
      }

  -- and its marks
  marks_of : MarksShown t.table.entries s.now.table s
  marks_of = record { holds = λ i. ap (λ (e : Entry). is_held e) (parts i) }

-- an entry is known by its three parts
pub entry_from : (e : Entry) (kind : Kind) (h o : Bool) → e.term ≡ kind → is_held e ≡ h → is_own_entry e ≡ o →
    e ≡ entry kind h o
entry_from e kind h o ek eh eo = λ i. record { term = ek i; marks = record { held = eh i; own = eo i } }

-- the table of a token shows the terms of a token's state, and which of them are held in a state
pub record TableShown (table : Stored) (now : Now) (s : State) : Type 0 where
  pub entries_length : length table.entries ≡ most_terms
  pub terms : TermsShown table.entries now.table now
  pub marks : MarksShown table.entries now.table s
  pub terms_count : table.terms ≡ length now.table
  pub keys_count : table.keys ≡ length now.origins

-- the table of a token that shows a state
pub table_of : {t : Token} {s : State} → Shows t s → TableShown t.table s.now s
table_of shows =
    record {
      entries_length = shows.entries_length;
      terms = terms_of shows;
      marks = marks_of shows;
      terms_count = shows.terms_shown;
      keys_count = shows.keys_shown;
    }

-- what shows a state in table, links and hands is a token that shows it
pub parts_show : {t : Token} {s : State} → length s.now.table ≤ most_terms → TableShown t.table s.now s →
    ShowsLinks t.links t.table.entries (length s.now.table) → ShowsHands t.hands s.now → Shows t s
unfolding entry_of
parts_show {t} {s} room table links hands =
    record {
      room = room;
      entries_length = table.entries_length;
      entries_shown = λ i h.
          entry_from (get_or t.table.entries i blank_entry) _ _ _ (table.terms.kinds i) (table.marks.holds i)
          (table.terms.owns i)
          ∙ sym (entry_parts s (get_elem? s.now.table i));
      terms_shown = table.terms_count;
      keys_shown = table.keys_count;
      links_shown = links;
      hands_shown = hands;
    }
