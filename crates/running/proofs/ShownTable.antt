-- What a token's table shows, change by change: the state's table stays, a term is entered, the marks are those of another state,
-- a leak is followed. Rests on ShownGrown and ShownLeak.
use Prim.Native.Nat.{ℕ, suc, ◌≤◌, ◌<◌}
use native.Mathlib.Omega.{arith}
use mathlib.Core.Path.{◌≡◌, sym, ap, subst, ◌∙◌}
use mathlib.Core.List.{List, [], ◌∷◌, ◌++◌}
use mathlib.Core.Option.{some}
use lib.ListN.{length, get_elem?, set, length-append, length-set}
use Rattle.shapes.specs.Entries.{is_held, is_own_entry}
use Rattle.terms.specs.Lists.{◌∈◌}
use Rattle.terms.specs.Terms.{Term, Table, key}
use Rattle.terms.proofs.Lists.{at_append}
use Rattle.rules.specs.State.{State, Now, most_terms}
use Rattle.rules.proofs.Sound.{Sound}
use Rattle.shapes.specs.declared.Entry.{Entry}
use Rattle.token.specs.declared.Table.{Table as Stored}
use Rattle.running.specs.Applied.{appended, keys_with, TableFollowed}
use Rattle.running.proofs.MarksKept.{mark}
use Rattle.running.proofs.ShownParts.{kind_for, held_for, own_for, TermsShown, MarksShown, TableShown}
use Rattle.running.proofs.ShownGrown.{Extends, Grows, terms_kept, terms_appended, marks_appended}
use Rattle.running.proofs.ShownGrown.{marks_kept}
use Rattle.running.proofs.ShownLeak.{Leaking, terms_followed, marks_followed}

-- a list with one thing more is one longer
pub length_snoc : {A : Type 0} (l : List A) (x : A) → length (l ++ x ∷ []) ≡ suc (length l)
length_snoc l x = omega (arith, length-append l (x ∷ []))

-- an equal list extends the list
pub same_extends : {A : Type 0} {more less : List A} → more ≡ less → Extends more less
same_extends {A} e i x at = subst (λ (l : List A). get_elem? l i ≡ some x) (sym e) at

-- and so does the list with something behind it
pub snoc_extends : {A : Type 0} {more : List A} (less : List A) (y : A) → more ≡ less ++ y ∷ [] → Extends more less
snoc_extends {A} less y e i x at = subst (λ (l : List A). get_elem? l i ≡ some x) (sym e) (at_append less (y ∷ []) i at)

-- the marks are those of another state, too, where each key of the table has the same mark there
pub table_marked : {table : Stored} {now : Now} (s s' : State) → ((k : ℕ) → key k ∈ now.table → mark s k ≡ mark s' k) →
    TableShown table now s → TableShown table now s'
table_marked s s' same shown =
    record {
      entries_length = shown.entries_length;
      terms = shown.terms;
      marks = marks_kept s s' same shown.marks;
      terms_count = shown.terms_count;
      keys_count = shown.keys_count;
    }

module _ {s s' : State} (i : Sound s) (i' : Sound s') {table : Stored} {u : State} (shown : TableShown table s.now u) where
  -- the table stays
  pub table_same : s'.now.table ≡ s.now.table → s'.now.origins ≡ s.now.origins → TableShown table s'.now u
  table_same et eo =
      let grows : Grows s.now s'.now = record { table_more = same_extends et; origins_more = same_extends eo } in
      record {
        entries_length = shown.entries_length;
        terms = subst (λ (l : Table). TermsShown table.entries l s'.now) (sym et) (terms_kept i i' grows shown.terms);
        marks = subst (λ (l : Table). MarksShown table.entries l u) (sym et) shown.marks;
        terms_count = shown.terms_count ∙ ap length (sym et);
        keys_count = shown.keys_count ∙ ap length (sym eo);
      }

  -- a term is entered, and its entry appended
  pub table_entered : (m : Term) (e : Entry) → length s.now.table < most_terms → s'.now.table ≡ s.now.table ++ m ∷ [] →
      Extends s'.now.origins s.now.origins → keys_with e.term (length s.now.origins) ≡ length s'.now.origins →
      e.term ≡ kind_for s'.now.table (some m) → is_own_entry e ≡ own_for s'.now.origins (some m) →
      is_held e ≡ held_for u (some m) → TableShown (appended table e) s'.now u
  table_entered m e room et eo counted ek own held =
      let grows : Grows s.now s'.now = record { table_more = snoc_extends s.now.table m et; origins_more = eo } in
      let inside : length s.now.table < length table.entries = omega (arith, shown.entries_length) in
      record {
        entries_length = length-set table.entries table.terms e ∙ shown.entries_length;
        terms =
            subst (λ (l : Table). TermsShown (set table.entries table.terms e) l s'.now) (sym et)
            (subst (λ (n : ℕ). TermsShown (set table.entries n e) (s.now.table ++ m ∷ []) s'.now) (sym shown.terms_count)
            (terms_appended table.entries s.now.table m e inside ek own (terms_kept i i' grows shown.terms)));
        marks =
            subst (λ (l : Table). MarksShown (set table.entries table.terms e) l u) (sym et)
            (subst (λ (n : ℕ). MarksShown (set table.entries n e) (s.now.table ++ m ∷ []) u) (sym shown.terms_count)
            (marks_appended table.entries s.now.table m e inside held shown.marks));
        terms_count = ap suc shown.terms_count ∙ sym (ap length et ∙ length_snoc s.now.table m);
        keys_count = ap (keys_with e.term) shown.keys_count ∙ counted;
      }

-- a leak is followed
pub table_followed : {s s' : State} (i' : Sound s') {table result : Stored} {p : ℕ} → length s'.now.table ≤ most_terms →
    Leaking s s' p → TableShown table s'.now s → TableFollowed table p result → TableShown result s'.now s'
table_followed i' room leak shown followed =
    record {
      entries_length = followed.followed.same_length ∙ shown.entries_length;
      terms = terms_followed i' room shown.terms shown.marks leak followed.followed;
      marks = marks_followed i' room shown.terms shown.marks leak followed.followed;
      terms_count = followed.same_terms ∙ shown.terms_count;
      keys_count = followed.same_keys ∙ shown.keys_count;
    }
