-- A key or a data item is made: its entry is appended, and every other key keeps its mark, since nothing is sealed under a key
-- before it is made. Rests on ChangedKinds.
use Prim.Native.Nat.{ℕ, ◌<◌}
use mathlib.Core.Path.{◌≡◌, refl, sym, ap, subst, ◌∙◌}
use mathlib.Core.Bool.{Bool, false}
use mathlib.Core.List.Memᴰ
use mathlib.Core.List.{List, [], ◌∷◌, ◌++◌}
use mathlib.Core.Logic.{◌⊎◌, inl, inr, ⊎_elim}
use mathlib.Core.Option.{some}
use lib.ListN.{length, get_elem?}
use Rattle.terms.specs.Lists.{◌∈◌}
use Rattle.terms.specs.Terms.{Term, Table, item, key, seal, listed, enter}
use Rattle.terms.specs.Following.{own_key, given_key, under_key}
use Rattle.terms.proofs.Lists.{◌⊆◌, bool_cases, at_end}
use Rattle.terms.proofs.Terms.{listed_true, enter_new, in_enter, enter_cases}
use Rattle.rules.specs.State.{State, Origin, new_key, most_terms}
use Rattle.rules.proofs.Judging.{reached_in_table}
use Rattle.rules.proofs.ShapeKept.{parts_in}
use Rattle.rules.proofs.Sound.{Sound}
use Rattle.shapes.specs.declared.Term.TheVariants.{Key}
use Rattle.token.specs.declared.Token.{Token}
use Rattle.token.specs.Shows.{Shows, ShowsHands, is_own}
use Rattle.running.specs.Applied.{appended, key_entry, item_entry}
use Rattle.running.proofs.MarksKept.{Reaches, SameMarks, mark, marked_reached, same_mark, reached_within, reached_more}
use Rattle.running.proofs.ShownParts.{kind_for, held_for, own_for}
use Rattle.running.proofs.ShownLinks.{data_no_seal, key_no_seal}
use Rattle.running.proofs.ShownTable.{length_snoc, same_extends, snoc_extends}
use Rattle.running.proofs.ChangedKinds.{changed_entered}

-- the second list has what the first has, and at most one thing more
pub record Adds {A : Type 0} (less more : List A) (x : A) : Type 0 where
  pub kept : less ⊆ more
  pub at_most : (y : A) → y ∈ more → (y ≡ x) ⊎ (y ∈ less)

-- nothing is added
pub adds_none : {A : Type 0} {l : List A} {x : A} → Adds l l x
adds_none = record { kept = λ y h. h; at_most = λ y h. inr h }

-- it is put in front
pub adds_first : {A : Type 0} {l : List A} {x : A} → Adds l (x ∷ l) x
adds_first = record { kept = λ y h. Memᴰ.tail h; at_most = λ y h. Memᴰ.cases_cons h }

-- it is entered
adds_enter : (table : Table) (m : Term) → Adds table (enter table m) m
adds_enter table m = record { kept = λ y h. in_enter table m h; at_most = λ y h. ⊎_elim inr inl (enter_cases table m h) }

-- between two states a term is made that was not in the table
pub record Makes (s s' : State) (m : Term) : Type 0 where
  pub entered : s'.now.table ≡ enter s.now.table m
  pub own_adds : Adds s.past.own s'.past.own m
  pub given_adds : Adds s.past.given s'.past.given m
  pub is_new : ¬ (m ∈ s.now.table)
  pub no_seal : (k : ℕ) (x : Term) → ¬ (m ≡ seal k x)

module _ {s s' : State} {m : Term} (i : Sound s) (makes : Makes s s' m) where
  -- it is added to the table
  table_adds : Adds s.now.table s'.now.table m
  table_adds = subst (λ (l : Table). Adds s.now.table l m) (sym makes.entered) (adds_enter s.now.table m)

  -- it is not listed
  pub not_listed : listed s.now.table m ≡ false
  not_listed =
      bool_cases (listed s.now.table m) (λ e. absurd (makes.is_new (listed_true s.now.table m e))) (λ e. e)

  -- so it is at the end
  pub made_table : s'.now.table ≡ s.now.table ++ m ∷ []
  made_table = makes.entered ∙ enter_new s.now.table m not_listed

  -- what is reached besides is the key made
  made_reached : {k : ℕ} → Reaches s' k → (key k ≡ m) ⊎ Reaches s k
  made_reached =
      reached_within {P = λ k. (key k ≡ m) ⊎ Reaches s k} (record {
        own_within = λ k h. ⊎_elim inl (λ o. inr (own_key o)) (makes.own_adds.at_most (key k) h);
        given_within = λ k h. ⊎_elim inl (λ o. inr (given_key o)) (makes.given_adds.at_most (key k) h);
        seals_within = λ j k h r.
            ⊎_elim (λ e. absurd (makes.no_seal k (key j) (sym e))) (λ o. inr (under_key o (was k (parts_in i.counted.shape o).0 r)))
            (table_adds.at_most (seal k (key j)) h);
      })
    where
      was : (k : ℕ) → key k ∈ s.now.table → (key k ≡ m) ⊎ Reaches s k → Reaches s k
      was k h (inl e) = absurd (makes.is_new (subst (λ (x : Term). x ∈ s.now.table) e h))
      was k h (inr r) = r

  -- a key that is made and not given is not reached
  pub made_unmarked : s'.past.own ⊆ s.past.own → s'.past.given ⊆ s.past.given → (k : ℕ) → key k ≡ m → mark s' k ≡ false
  made_unmarked own_same given_same k e =
      bool_cases (mark s' k)
      (λ y.
      absurd (makes.is_new (subst (λ (x : Term). x ∈ s.now.table) e (reached_in_table i (still (marked_reached s' k y))))))
      (λ n. n)
    where
      still : {n : ℕ} → Reaches s' n → Reaches s n
      still =
          reached_within (record {
            own_within = λ n h. own_key (own_same (key n) h);
            given_within = λ n h. given_key (given_same (key n) h);
            seals_within = λ a n h r.
                ⊎_elim (λ q. absurd (makes.no_seal n (key a) (sym q))) (λ o. under_key o r)
                (table_adds.at_most (seal n (key a)) h);
          })

  -- every key of the table keeps its mark
  pub made_marks : SameMarks s s'
  made_marks k h =
      same_mark s s' k (reached_more makes.own_adds.kept makes.given_adds.kept table_adds.kept)
      (λ r.
      ⊎_elim (λ (e : key k ≡ m). absurd (makes.is_new (subst (λ (x : Term). x ∈ s.now.table) e h))) (λ o. o)
      (made_reached r))

module _ {s s' : State} (i : Sound s) (i' : Sound s') {t r : Token} (shows : Shows t s) where
  -- a data item is made
  pub item_made : (n : ℕ) → Makes s s' (item n) → length s.now.table < most_terms → s'.now.origins ≡ s.now.origins →
      r.table ≡ appended t.table item_entry → r.links ≡ t.links → ShowsHands r.hands s'.now → Shows r s'
  unfolding kind_for own_for held_for
  item_made n makes room eo rt rl hands =
      changed_entered i i' shows (item n) room (made_table i makes) item_entry (same_extends eo) (ap length (sym eo)) refl
      refl refl data_no_seal (made_marks i makes) rt rl hands

  -- a key is made, generated or the caller's own
  pub key_made : (o : Origin) (own : Bool) → Makes s s' (key (new_key s.now)) → length s.now.table < most_terms →
      s'.now.origins ≡ s.now.origins ++ o ∷ [] → own ≡ is_own (some o) → own ≡ mark s' (new_key s.now) →
      r.table ≡ appended t.table (key_entry t.table own) → r.links ≡ t.links →
      ShowsHands r.hands s'.now → Shows r s'
  unfolding kind_for own_for held_for new_key
  key_made o own makes room eo is_own_key is_held_mark rt rl hands =
      changed_entered i i' shows (key (new_key s.now)) room (made_table i makes) (key_entry t.table own)
      (snoc_extends s.now.origins o eo) (sym (ap length eo ∙ length_snoc s.now.origins o))
      (ap (λ (n : ℕ). Key (record { 0 = n })) shows.keys_shown)
      (is_own_key
      ∙ ap is_own (sym (ap (λ (l : List Origin). get_elem? l (length s.now.origins)) eo ∙ at_end s.now.origins o)))
      is_held_mark (key_no_seal _) (made_marks i makes) rt rl hands
