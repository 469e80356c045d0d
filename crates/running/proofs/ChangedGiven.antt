-- A done command that answers a term of the table, or a seal of one: its change can be made in a token that shows the state, and
-- gives a token that shows the next state. Rests on ChangedAnswers, ChangedKinds and ShownFollowable.
use Prim.Native.Nat.{ℕ, ◌≤◌, ◌<◌}
use native.Mathlib.Omega.{arith}
use mathlib.Core.Path.{◌≡◌, refl, sym, ap, subst, ◌∙◌}
use mathlib.Core.Bool.{Bool, true, false, not, ◌&&◌, cond}
use lib.ListN.{length}
use borrow.Author.Tests.{not-true, not-false}
use Rattle.terms.specs.Lists.{◌∈◌}
use Rattle.terms.specs.Terms.{Term, key, seal, listed, number_of}
use Rattle.terms.proofs.Lists.{at_below}
use Rattle.terms.proofs.Terms.{listed_true, number_at}
use Rattle.rules.specs.State.{State, is_key, key_number, most_terms}
use Rattle.rules.proofs.Named.{both, key_term}
use Rattle.rules.proofs.Sound.{Sound}
use Rattle.token.specs.declared.Hands.{Hands}
use Rattle.token.specs.declared.Token.{Token}
use Rattle.deciding.specs.declared.Change.TheVariants.{Nothing, NewSeal, Know}
use Rattle.token.specs.Shows.{Shows, ShowsLinks, ShowsHands}
use Rattle.running.specs.Applied.{Applied}
use Rattle.running.proofs.ChangeFor.{held_in, seal_change, gift_change}
use Rattle.running.proofs.MarksKept.{Reaches, mark, marked_reached}
use Rattle.running.proofs.ShownParts.{table_of}
use Rattle.running.proofs.ShownHands.{hands_kept}
use Rattle.running.proofs.ShownTable.{same_extends, snoc_extends, table_same}
use Rattle.running.proofs.ShownCounts.{key_below}
use Rattle.running.proofs.ShownFollowable.{leak_followable}
use Rattle.running.proofs.ChangedKinds.{changed_hands, changed_known, changed_sealed, changed_leaked, room_more, seal_table}
use Rattle.running.proofs.ChangedKinds.{seal_links}
use Rattle.running.proofs.ChangedAnswers.{Answers, same_table, more_table, again_marks, gift_leaks, seal_marks, seal_leaks}
use Rattle.running.proofs.ChangedWorks.{Works, term_room}

-- a term that is no key that leaks is no key, or is known
not_leaking : (s : State) (m : Term) → (is_key m && not (held_in s m)) ≡ false → (k : ℕ) → m ≡ key k → Reaches s k
unfolding held_in is_key
not_leaking s m e k q =
    let f : (is_key (key k) && not (held_in s (key k))) ≡ false =
    subst (λ (x : Term). (is_key x && not (held_in s x)) ≡ false) q e in
    marked_reached s k (not-false _ f)

-- what is known of a seal that leaks a key, and of one that leaks none
pub record SealLeaks (s : State) (k : ℕ) (x : Term) (leaks : Bool) : Type 0 where
  pub leaks_key : leaks ≡ true → (j : ℕ) × (x ≡ key j) × (mark s j ≡ false)
  pub outer_known : leaks ≡ true → Reaches s k
  pub no_leak : leaks ≡ false → (j : ℕ) → x ≡ key j → Reaches s k → Reaches s j

module _ {s s' : State} (i : Sound s) (i' : Sound s') {t : Token} (shows : Shows t s) where
  -- the hands show the next state, where the term was there
  same_hands : {m : Term} (a : Answers s s' m) → m ∈ s.now.table → ShowsHands t.hands s'.now
  same_hands a there =
      hands_kept i i'
      (record { table_more = same_extends (same_table a there); origins_more = same_extends a.same_origins })
      a.same_handles shows.hands_shown

  -- and where it was not
  more_hands : {m : Term} (a : Answers s s' m) → listed s.now.table m ≡ false → ShowsHands t.hands s'.now
  more_hands {m} a e =
      hands_kept i i'
      (record { table_more = snoc_extends s.now.table m (more_table a e); origins_more = same_extends a.same_origins })
      a.same_handles shows.hands_shown

  -- a term's number is inside
  number_inside : {x : Term} → x ∈ s.now.table → number_of s.now.table x < most_terms
  number_inside {x} h = omega (arith, at_below s.now.table (number_of s.now.table x) (number_at h), shows.room)

  -- nothing changes in the token
  nothing_works : {m : Term} (a : Answers s s' m) → m ∈ s.now.table → ((k : ℕ) → m ≡ key k → Reaches s k) → Works t s' Nothing
  unfolding Applied
  nothing_works a there known =
      record {
        applicable = tt;
        shows_next = λ r e.
            subst (λ (x : Token). Shows x s') (sym e)
            (changed_hands i i' shows (same_table a there) a.same_origins (again_marks a there known) refl refl
            (same_hands a there));
      }

  -- a term of the table is a key that leaks
  know_works : {m : Term} (a : Answers s s' m) → m ∈ s.now.table → (j : ℕ) → m ≡ key j → mark s j ≡ false →
      Works t s' (Know (record { 0 = number_of s.now.table m }))
  unfolding Applied
  know_works {m} a there j e unmarked =
      let leak = gift_leaks a there j e unmarked in
      let et = same_table a there in
      let room : length s'.now.table ≤ most_terms = subst (λ (n : ℕ). n ≤ most_terms) (ap length (sym et)) shows.room in
      record {
        applicable =
            record {
              inside = number_inside there;
              followable =
                  leak_followable i' room (table_same i i' (table_of shows) et a.same_origins)
                  (subst (λ (n : ℕ). ShowsLinks t.links t.table.entries n) (ap length (sym et)) shows.links_shown) leak;
            };
        shows_next = λ r made.
            changed_known i i' shows (number_of s.now.table m) et a.same_origins leak made.of_table made.of_links
            (subst (λ (x : Hands). ShowsHands x s'.now) (sym made.of_hands) (same_hands a there));
      }

  -- a term of the table is answered
  pub gift_works : {m : Term} → Answers s s' m → m ∈ s.now.table → Works t s' (gift_change s m)
  unfolding gift_change held_in
  gift_works {m} a there = go (is_key m && not (held_in s m)) refl
    where
      go : (b : Bool) → (is_key m && not (held_in s m)) ≡ b →
          Works t s' (cond b (Know (record { 0 = number_of s.now.table m })) Nothing)
      go true e =
          let is = key_term m (both (is_key m) (not (held_in s m)) e).0 in
          let unmarked = not-true (held_in s m) (both (is_key m) (not (held_in s m)) e).1 in
          know_works a there (key_number m) is (sym (ap (held_in s) is) ∙ unmarked)
      go false e = nothing_works a there (not_leaking s m e)

  -- a seal is answered that was not there
  module _ (k : ℕ) (x : Term) (a : Answers s s' (seal k x)) (key_in : key k ∈ s.now.table) (payload_in : x ∈ s.now.table)
      (few : length s.now.table < most_terms) (new : listed s.now.table (seal k x) ≡ false) where
    new_works : (leaks : Bool) → SealLeaks s k x leaks →
        Works t s' (NewSeal (record { 0 = k }) (record { 0 = number_of s.now.table x }) leaks)
    unfolding Applied
    new_works true known =
        let et = more_table a new in
        let eo = a.same_origins in
        let inner = known.leaks_key refl in
        let leak = seal_leaks a k x refl new inner.0 inner.1 inner.2 payload_in (known.outer_known refl) in
        record {
          applicable =
              record {
                for_term = term_room i shows few;
                key_inside = omega (arith, key_below i key_in, few);
                payload_inside = number_inside payload_in;
                followable =
                    leak_followable i' (room_more i i' shows (seal k x) few et)
                    (seal_table i i' shows k x few et eo key_in payload_in (table_of shows))
                    (seal_links i i' shows k x few et eo key_in payload_in) leak;
              };
          shows_next = λ r made.
              changed_leaked i i' shows k x few et eo key_in payload_in (number_of s.now.table x) leak made.of_table
              made.of_links (subst (λ (y : Hands). ShowsHands y s'.now) (sym made.of_hands) (more_hands a new));
        }
    new_works false known =
        record {
          applicable =
              record {
                for_term = term_room i shows few;
                key_inside = omega (arith, key_below i key_in, few);
                payload_inside = number_inside payload_in;
                followable = tt;
              };
          shows_next = λ r made.
              changed_sealed i i' shows k x few (more_table a new) a.same_origins key_in payload_in
              (seal_marks a k x refl new (known.no_leak refl)) made.of_table made.of_links
              (subst (λ (y : Hands). ShowsHands y s'.now) (sym made.of_hands) (more_hands a new));
        }

  -- a seal of a term of the table is answered
  pub seal_works : (k : ℕ) (x : Term) (leaks : Bool) → Answers s s' (seal k x) → key k ∈ s.now.table → x ∈ s.now.table →
      (listed s.now.table (seal k x) ≡ false → length s.now.table < most_terms) → SealLeaks s k x leaks →
      Works t s' (seal_change s k x leaks)
  unfolding seal_change
  seal_works k x leaks a key_in payload_in room known = go (listed s.now.table (seal k x)) refl
    where
      no_key : (j : ℕ) → seal k x ≡ key j → Reaches s j
      no_key j q = absurd (let z : ◌≡◌ {A = ℕ} 0 1 = cc in omega arith)

      go : (b : Bool) → listed s.now.table (seal k x) ≡ b →
          Works t s' (cond b Nothing (NewSeal (record { 0 = k }) (record { 0 = number_of s.now.table x }) leaks))
      go true e = nothing_works a (listed_true s.now.table (seal k x) e) no_key
      go false e = new_works k x a key_in payload_in (room e) e leaks known
