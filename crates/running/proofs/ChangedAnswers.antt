-- A term is entered and given, and nothing else changes that a token shows: what following then reaches. Where the term was there
-- and held, and where a new seal opens no new key, it reaches as far as before; otherwise one key leaks. Rests on MarksKept.
use Prim.Native.Nat.{ℕ}
use native.Mathlib.Omega.{arith}
use mathlib.Core.Path.{◌≡◌, sym, ap, subst, ◌∙◌}
use mathlib.Core.Bool.{false}
use mathlib.Core.List.Memᴰ
use mathlib.Core.List.{List, [], ◌∷◌, ◌++◌}
use mathlib.Core.Logic.{◌⊎◌, inl, inr, ⊎_elim}
use mathlib.Core.Option.{Option, some}
use lib.ListN.{get_elem?}
use Rattle.terms.specs.Lists.{◌∈◌}
use Rattle.terms.specs.Terms.{Term, Table, key, seal, listed, number_of, enter}
use Rattle.terms.specs.Following.{own_key, given_key, under_key}
use Rattle.terms.proofs.Lists.{at_append}
use Rattle.terms.proofs.Terms.{in_listed, number_at, enter_listed, enter_new}
use Rattle.rules.specs.State.{State}
use Rattle.running.proofs.MarksKept.{Reaches, SameMarks, mark, same_mark, reached_within, reached_more}
use Rattle.running.proofs.ShownLeak.{Leaking}

-- a term is entered and given, and nothing else changes that a token shows
pub record Answers (s s' : State) (m : Term) : Type 0 where
  pub entered : s'.now.table ≡ enter s.now.table m
  pub same_origins : s'.now.origins ≡ s.now.origins
  pub same_handles : s'.now.handles ≡ s.now.handles
  pub same_own : s'.past.own ≡ s.past.own
  pub given_more : s'.past.given ≡ m ∷ s.past.given

module _ {s s' : State} {m : Term} (a : Answers s s' m) where
  -- what is owned was owned; what is given was given, or is the term
  own_was : {x : Term} → x ∈ s'.past.own → x ∈ s.past.own
  own_was {x} h = subst (λ (l : List Term). x ∈ l) a.same_own h

  given_was : {x : Term} → x ∈ s'.past.given → (x ≡ m) ⊎ (x ∈ s.past.given)
  given_was {x} h = Memᴰ.cases_cons (subst (λ (l : List Term). x ∈ l) a.given_more h)

  -- what is reached stays reached
  still : (table : (x : Term) → x ∈ s.now.table → x ∈ s'.now.table) → (k : ℕ) → Reaches s k → Reaches s' k
  still table k r =
      reached_more (λ x h. subst (λ (l : List Term). x ∈ l) (sym a.same_own) h)
      (λ x h. subst (λ (l : List Term). x ∈ l) (sym a.given_more) (Memᴰ.tail h)) table r

  -- the term was there: the table stays
  pub same_table : m ∈ s.now.table → s'.now.table ≡ s.now.table
  same_table h = a.entered ∙ enter_listed s.now.table m (in_listed h)

  -- it was not: it is at the end
  pub more_table : listed s.now.table m ≡ false → s'.now.table ≡ s.now.table ++ m ∷ []
  more_table e = a.entered ∙ enter_new s.now.table m e

  -- the term was there, and held if it is a key: nothing changes
  module _ (there : m ∈ s.now.table) where
    -- the table holds what it held
    in_old : {x : Term} → x ∈ s'.now.table → x ∈ s.now.table
    in_old {x} h = subst (λ (l : Table). x ∈ l) (same_table there) h

    in_new : (x : Term) → x ∈ s.now.table → x ∈ s'.now.table
    in_new x h = subst (λ (l : Table). x ∈ l) (sym (same_table there)) h

    -- every key keeps its mark
    pub again_marks : ((k : ℕ) → m ≡ key k → Reaches s k) → SameMarks s s'
    again_marks known k h =
        same_mark s s' k (still in_new k)
        (reached_within (record {
          own_within = λ j o. own_key (own_was o);
          given_within = λ j g. ⊎_elim (λ e. known j (sym e)) (λ o. given_key o) (given_was g);
          seals_within = λ j o h r. under_key (in_old h) r;
        }))

    -- a key that is given leaks
    pub gift_leaks : (j : ℕ) → m ≡ key j → mark s j ≡ false → Leaking s s' (number_of s.now.table m)
    gift_leaks j e unmarked =
        record {
          leaked = j;
          leaked_at =
              subst (λ (l : Table). get_elem? l (number_of s.now.table m) ≡ some (key j)) (sym (same_table there))
              (number_at there ∙ ap {B = Option Term} some e);
          not_marked = unmarked;
          leaked_reached = given_key (subst (λ (l : List Term). key j ∈ l) (sym a.given_more) (Memᴰ.head (sym e)));
          still_reached = still in_new;
          own_old = λ k h. own_key (own_was h);
          given_old = λ k h. ⊎_elim (λ (q : key k ≡ m). inr (same k q)) (λ g. inl (given_key g)) (given_was h);
          seals_old = λ i k h r. inl (under_key (in_old h) r);
        }
      where
        same : (k : ℕ) → key k ≡ m → k ≡ j
        same k q = cc

  -- a seal that was not there
  module _ (k : ℕ) (x : Term) (is_seal : m ≡ seal k x) (new : listed s.now.table m ≡ false) where
    -- the table holds what it held, and the seal
    in_more : (y : Term) → y ∈ s.now.table → y ∈ s'.now.table
    in_more y h = subst (λ (l : Table). y ∈ l) (sym (more_table new)) (Memᴰ.append_left (m ∷ []) h)

    in_was : {y : Term} → y ∈ s'.now.table → (y ∈ s.now.table) ⊎ (y ≡ m)
    in_was {y} h =
        ⊎_elim inl (λ n. inr (Memᴰ.eq_of_singleton n))
        (Memᴰ.append_cases s.now.table (subst (λ (l : Table). y ∈ l) (more_table new) h))

    -- a seal is no key
    no_key : {j : ℕ} → ¬ (key j ≡ m)
    no_key q = let z : ◌≡◌ {A = ℕ} 0 1 = cc in omega arith

    -- its key is not reached, or its payload is no key or is reached: every key keeps its mark
    pub seal_marks : ((j : ℕ) → x ≡ key j → Reaches s k → Reaches s j) → SameMarks s s'
    seal_marks known n h =
        same_mark s s' n (still in_more n)
        (reached_within (record {
          own_within = λ j o. own_key (own_was o);
          given_within = λ j g. ⊎_elim (λ e. absurd (no_key e)) (λ o. given_key o) (given_was g);
          seals_within = λ j o h r. ⊎_elim (λ t. under_key t r) (λ e. of_new j o e r) (in_was h);
        }))
      where
        of_new : (j o : ℕ) → seal o (key j) ≡ m → Reaches s o → Reaches s j
        of_new j o e r =
            let ok : o ≡ k = cc in
            let xj : x ≡ key j = cc in
            known j xj (subst (Reaches s) ok r)

    -- its key is reached, and the payload is a key: that leaks
    pub seal_leaks : (j : ℕ) → x ≡ key j → mark s j ≡ false → x ∈ s.now.table → Reaches s k →
        Leaking s s' (number_of s.now.table x)
    seal_leaks j e unmarked there reached =
        record {
          leaked = j;
          leaked_at =
              subst (λ (l : Table). get_elem? l (number_of s.now.table x) ≡ some (key j)) (sym (more_table new))
              (at_append s.now.table (m ∷ []) (number_of s.now.table x) (number_at there ∙ ap {B = Option Term} some e));
          not_marked = unmarked;
          leaked_reached = under_key at_end (still in_more k reached);
          still_reached = still in_more;
          own_old = λ n h. own_key (own_was h);
          given_old = λ n h. ⊎_elim (λ q. absurd (no_key q)) (λ g. inl (given_key g)) (given_was h);
          seals_old = λ i o h r. ⊎_elim (λ t. inl (under_key t r)) (λ q. inr (of_new i o q)) (in_was h);
        }
      where
        at_end : seal k (key j) ∈ s'.now.table
        at_end =
            subst (λ (l : Table). seal k (key j) ∈ l) (sym (more_table new))
            (Memᴰ.append_right s.now.table (Memᴰ.head (ap (seal k) (sym e) ∙ sym is_seal)))

        of_new : (i o : ℕ) → seal o (key i) ≡ m → i ≡ j
        of_new i o q = cc
