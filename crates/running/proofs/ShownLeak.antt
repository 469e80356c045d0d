-- What the entries show once a leak was followed: the marks of the next state. Between two states one key leaks where following
-- reaches what it reached before, that key, and what is sealed under these. Rests on MarksKept and ShownParts.
use Prim.Native.Nat.{ℕ, ◌≤◌, ◌<◌}
use native.Mathlib.Omega.{arith}
use mathlib.Core.Path.{◌≡◌, refl, sym, ap, subst, ◌∙◌}
use mathlib.Core.Bool.{true, false, false≢true}
use mathlib.Core.List.{List}
use mathlib.Core.Logic.{◌⊎◌, inl, inr, ⊎_elim}
use mathlib.Core.Option.{Option, none, some}
use lib.ListN.{length, get_elem?}
use Rattle.terms.specs.Lists.{◌∈◌}
use Rattle.terms.specs.Terms.{Term, Table, item, key, seal, number_of}
use Rattle.terms.specs.Following.{under_key}
use Rattle.terms.proofs.Lists.{at_in, in_at}
use Rattle.terms.proofs.Terms.{number_at}
use Rattle.rules.specs.State.{State, most_terms}
use Rattle.rules.proofs.Sound.{Sound}
use Rattle.rules.proofs.ShapeKept.{parts_in}
use Rattle.shapes.specs.declared.KeyNo.{KeyNo}
use Rattle.shapes.specs.declared.TermNo.{TermNo}
use Rattle.shapes.specs.declared.Term.TheVariants.{Key, Seal}
use Rattle.shapes.specs.declared.Entry.{Entry}
use Rattle.running.specs.Leaks.{kind_at, held_at, Opens, Leak, the_leak, leads, ClosedBut, Followed}
use Rattle.running.proofs.MarksKept.{Reaches, mark, marked_reached, reached_marked, alike, reached_within}
use Rattle.running.proofs.ShownParts.{kind_for, held_for, TermsShown, MarksShown}

-- the key of term number p leaks between two states
pub record Leaking (s s' : State) (p : ℕ) : Type 0 where
  pub leaked : ℕ
  pub leaked_at : get_elem? s'.now.table p ≡ some (key leaked)
  pub not_marked : mark s leaked ≡ false
  pub leaked_reached : Reaches s' leaked
  pub still_reached : (k : ℕ) → Reaches s k → Reaches s' k
  pub own_old : (k : ℕ) → key k ∈ s'.past.own → Reaches s k
  pub given_old : (k : ℕ) → key k ∈ s'.past.given → Reaches s k ⊎ (k ≡ leaked)
  pub seals_old : (j k : ℕ) → seal k (key j) ∈ s'.now.table → Reaches s k → Reaches s j ⊎ (j ≡ leaked)

-- where no term is, no key is
no_term : {k : ℕ} → ¬ (none ≡ some (key k))
no_term e = let z : ◌≡◌ {A = ℕ} 0 1 = cc in omega arith

-- an entry of a key's kind stands beside that key
pub key_read : (table : Table) (x : Option Term) (k : KeyNo) → kind_for table x ≡ Key k → x ≡ some (key k.0)
unfolding kind_for
key_read table none k e = absurd (let z : ◌≡◌ {A = ℕ} 0 1 = cc in omega arith)
key_read table (some (item n)) k e = absurd (let z : ◌≡◌ {A = ℕ} 0 1 = cc in omega arith)
key_read table (some (key j)) k e = let q : record { 0 = j } ≡ k = cc in ap (λ (x : KeyNo). some (key x.0)) q
key_read table (some (seal j m)) k e = absurd (let z : ◌≡◌ {A = ℕ} 0 1 = cc in omega arith)

-- an entry of a seal's kind stands beside a seal
pub record SealRead (table : Table) (x : Option Term) (k : KeyNo) (p : TermNo) : Type 0 where
  pub inside : Term
  pub is_seal : x ≡ some (seal k.0 inside)
  pub its_number : number_of table inside ≡ p.0

-- and its number is that of the payload
pub seal_read : (table : Table) (x : Option Term) (k : KeyNo) (p : TermNo) → kind_for table x ≡ Seal k p → SealRead table x k p
unfolding kind_for
seal_read table none k p e = absurd (let z : ◌≡◌ {A = ℕ} 0 1 = cc in omega arith)
seal_read table (some (item n)) k p e = absurd (let z : ◌≡◌ {A = ℕ} 0 1 = cc in omega arith)
seal_read table (some (key j)) k p e = absurd (let z : ◌≡◌ {A = ℕ} 0 1 = cc in omega arith)
seal_read table (some (seal j m)) k p e =
    let q : record { 0 = j } ≡ k = cc in
    let r : record { 0 = number_of table m } ≡ p = cc in
    record { inside = m; is_seal = ap (λ (x : KeyNo). some (seal x.0 m)) q; its_number = ap (λ (x : TermNo). x.0) r }

-- the entries show the terms of the next state, and the marks of the state before
module _ {s s' : State} (sound : Sound s') (room : length s'.now.table ≤ most_terms) {entries : List Entry} {p : ℕ}
    (terms : TermsShown entries s'.now.table s'.now) (marks : MarksShown entries s'.now.table s)
    (leak : Leaking s s' p) where
  -- an entry of a key is beside that key
  pub key_at : (q : ℕ) (k : KeyNo) → kind_at entries q ≡ Key k → get_elem? s'.now.table q ≡ some (key k.0)
  key_at q k e = key_read s'.now.table (get_elem? s'.now.table q) k (sym (terms.kinds q) ∙ e)

  -- where an entry opens another, the key of the second is sealed directly under that of the first
  opened_seal : {q o : ℕ} (x : Opens entries q o) → seal x.outer.0 (key x.inner.0) ∈ s'.now.table
  opened_seal {q} {o} x =
      let r : SealRead s'.now.table (get_elem? s'.now.table x.seal_no) x.outer (record { 0 = o }) =
      seal_read s'.now.table _ x.outer (record { 0 = o }) (sym (terms.kinds x.seal_no) ∙ x.seal_kind) in
      let there : seal x.outer.0 r.inside ∈ s'.now.table = at_in s'.now.table x.seal_no r.is_seal in
      let at_o : get_elem? s'.now.table o ≡ some r.inside =
      subst (λ (n : ℕ). get_elem? s'.now.table n ≡ some r.inside) r.its_number
      (number_at (parts_in sound.counted.shape there).1) in
      let key_o : get_elem? s'.now.table o ≡ some (key x.inner.0) = key_at o x.inner x.inner_kind in
      let same : r.inside ≡ key x.inner.0 = cc in
      subst (λ (m : Term). seal x.outer.0 m ∈ s'.now.table) same there

  -- and the other way round
  seal_opens : (q o j k : ℕ) → seal k (key j) ∈ s'.now.table → get_elem? s'.now.table q ≡ some (key k) →
      get_elem? s'.now.table o ≡ some (key j) → Opens entries q o
  unfolding kind_for
  seal_opens q o j k there at_q at_o =
      let a = in_at there in
      record {
        outer = record { 0 = k };
        inner = record { 0 = j };
        seal_no = a.0;
        in_range = omega (arith, a.2);
        outer_kind = terms.kinds q ∙ ap (kind_for s'.now.table) at_q;
        seal_kind = terms.kinds a.0 ∙ ap (kind_for s'.now.table) a.1
            ∙ ap (λ (n : ℕ). Seal (record { 0 = k }) (record { 0 = n }))
            (sound.counted.shape.once (number_at (at_in s'.now.table o at_o)) at_o);
        inner_kind = terms.kinds o ∙ ap (kind_for s'.now.table) at_o;
      }

  -- its mark is the key's
  pub mark_at : (q k : ℕ) → get_elem? s'.now.table q ≡ some (key k) → held_at entries q ≡ mark s k
  unfolding held_for
  mark_at q k e = marks.holds q ∙ ap (held_for s) e

  -- the marks of the state before are closed, but for the key that leaks
  pub leak_closed : ClosedBut entries p
  leak_closed q o h x =
      let at_q = key_at q x.outer x.outer_kind in
      let at_o = key_at o x.inner x.inner_kind in
      let outer_reached = marked_reached s x.outer.0 (sym (mark_at q _ at_q) ∙ h) in
      ⊎_elim (λ r. inl (mark_at o _ at_o ∙ reached_marked s r))
      (λ (e : x.inner.0 ≡ leak.leaked).
      inr (sound.counted.shape.once at_o (leak.leaked_at ∙ ap (λ (n : ℕ). some (key n)) (sym e))))
      (leak.seals_old x.inner.0 x.outer.0 (opened_seal x) outer_reached)

  -- what the leak leads to is reached in the next state
  leak_reaches : {q : ℕ} → Leak entries p q → (k : ℕ) → get_elem? s'.now.table q ≡ some (key k) → Reaches s' k
  leak_reaches the_leak k e =
      let at_p = leak.leaked_at in
      let same : leak.leaked ≡ k = cc in
      subst (Reaches s') same leak.leaked_reached
  leak_reaches (leads {q = q} {p = o} l x) k e =
      let at_o = key_at o x.inner x.inner_kind in
      let same : x.inner.0 ≡ k = cc in
      subst (Reaches s') same (under_key (opened_seal x) (leak_reaches l x.outer.0 (key_at q x.outer x.outer_kind)))

  module _ {result : List Entry} (followed : Followed entries p result) where
    -- the terms are shown as before
    pub terms_followed : TermsShown result s'.now.table s'.now
    terms_followed =
        record {
          kinds = λ q. followed.same_kind q ∙ terms.kinds q;
          owns = λ q. followed.same_own q ∙ terms.owns q;
        }

    -- every key reached in the next state is marked
    reaches_held : {k : ℕ} → Reaches s' k → (q : ℕ) → get_elem? s'.now.table q ≡ some (key k) → held_at result q ≡ true
    reaches_held =
        reached_within {P = λ k. (q : ℕ) → get_elem? s'.now.table q ≡ some (key k) → held_at result q ≡ true} (record {
          own_within = λ k h q e. old q k e (leak.own_old k h);
          given_within = λ k h q e. old_or q k e (leak.given_old k h);
          seals_within = λ j k h held q e. opened q j k h e held (in_at (parts_in sound.counted.shape h).0);
        })
      where
        old : (q k : ℕ) → get_elem? s'.now.table q ≡ some (key k) → Reaches s k → held_at result q ≡ true
        old q k e r = followed.still_held q (mark_at q k e ∙ reached_marked s r)

        the_one : (q : ℕ) → q ≡ p → held_at result q ≡ true
        the_one q e = subst (λ (n : ℕ). held_at result n ≡ true) (sym e) (followed.leak_held p the_leak)

        old_or : (q k : ℕ) → get_elem? s'.now.table q ≡ some (key k) → Reaches s k ⊎ (k ≡ leak.leaked) →
            held_at result q ≡ true
        old_or q k e (inl r) = old q k e r
        old_or q k e (inr same) =
            the_one q (sound.counted.shape.once e (leak.leaked_at ∙ ap (λ (n : ℕ). some (key n)) (sym same)))

        further : (q a : ℕ) → Opens entries a q → (held_at entries a ≡ true) ⊎ Leak entries p a → held_at result q ≡ true
        further q a x (inl h) = ⊎_elim (λ held. followed.still_held q held) (λ same. the_one q same) (leak_closed a q h x)
        further q a x (inr l) = followed.leak_held q (leads l x)

        opened : (q j k : ℕ) → seal k (key j) ∈ s'.now.table → get_elem? s'.now.table q ≡ some (key j) →
            ((a : ℕ) → get_elem? s'.now.table a ≡ some (key k) → held_at result a ≡ true) →
            (a : ℕ) × (get_elem? s'.now.table a ≡ some (key k)) × (a < length s'.now.table) → held_at result q ≡ true
        opened q j k there e held at =
            further q at.0 (seal_opens at.0 q j k there at.1 e) (followed.no_other at.0 (held at.0 at.1))

    -- no other key is marked
    held_reaches : (q k : ℕ) → get_elem? s'.now.table q ≡ some (key k) → held_at result q ≡ true → Reaches s' k
    held_reaches q k e h =
        ⊎_elim (λ was. leak.still_reached k (marked_reached s k (sym (mark_at q k e) ∙ was))) (λ l. leak_reaches l k e)
        (followed.no_other q h)

    -- what the leak leads to is a key
    leak_key : {q : ℕ} → Leak entries p q → (k : ℕ) × (get_elem? s'.now.table q ≡ some (key k))
    leak_key the_leak = (leak.leaked, leak.leaked_at)
    leak_key (leads {p = o} l x) = (x.inner.0, key_at o x.inner x.inner_kind)

    -- each mark is that of the next state
    held_followed : (q : ℕ) (x : Option Term) → get_elem? s'.now.table q ≡ x → held_at result q ≡ held_for s' x
    unfolding held_for
    held_followed q none e =
        alike (held_at result q) false
        (λ h.
        ⊎_elim (λ (was : held_at entries q ≡ true). sym (marks.holds q ∙ ap (held_for s) e) ∙ was)
        (λ l. let k = leak_key l in absurd (no_term (sym e ∙ k.1))) (followed.no_other q h))
        (λ f. absurd (false≢true f))
    held_followed q (some (item n)) e = followed.still_held q (marks.holds q ∙ ap (held_for s) e)
    held_followed q (some (key k)) e =
        alike (held_at result q) (mark s' k) (λ h. reached_marked s' (held_reaches q k e h))
        (λ m. reaches_held (marked_reached s' k m) q e)
    held_followed q (some (seal k m)) e = followed.still_held q (marks.holds q ∙ ap (held_for s) e)

    -- once the leak was followed, the marks are those of the next state
    pub marks_followed : MarksShown result s'.now.table s'
    marks_followed = record { holds = λ q. held_followed q (get_elem? s'.now.table q) refl }
