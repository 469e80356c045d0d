-- The codes of seals: no two seals have one code; what looking for a code comes to; and that, where the codes are those of the
-- entries, looking for a seal's code finds that seal and nothing else. Rests on Shows (seal_code, code_of), on Views (equal_in) and on
-- ChainsLast.
use Rattle.std.specs.Prelude.{None, Some}
use Prim.Native.Nat.{ℕ, zero, suc, ◌<◌}
use native.Mathlib.Omega.{arith}
use mathlib.Core.Path.{◌≡◌, refl, sym, ap, ap₂, ◌∙◌}
use mathlib.Core.Bool.{true≢false}
use mathlib.Core.List.{List}
use borrow.Author.Tests.{eqb-true, eq-eqb, ne_eqb}
use lib.ListN.{get_or}
use Rattle.rules.specs.State.{most_terms}
use Rattle.shapes.specs.declared.KeyNo.{KeyNo}
use Rattle.shapes.specs.declared.TermNo.{TermNo}
use Rattle.shapes.specs.declared.Entry.{Entry}
use Rattle.shapes.specs.declared.Term.{Term as Kind}
use Rattle.shapes.specs.declared.Term.TheVariants.{Data, Key, Seal}
use Rattle.token.specs.Chains.{last}
use Rattle.token.specs.Shows.{seal_code, code_of}
use Rattle.running.specs.Leaks.{kind_at}
use Rattle.running.specs.Views.{equal_at, equal_in}
use Rattle.token.proofs.ChainsLast.{last_le, last_passes, last_none, none_last, last_at}
use Rattle.running.proofs.ChainsFound.{has_code}

-- two seals with one code are of one term under one key
pub seal_code_same : (k p j q : ℕ) → p < most_terms → q < most_terms → seal_code k p ≡ seal_code j q → (k ≡ j) × (p ≡ q)
seal_code_same k p j q lp lq e = omega arith

-- no seal has code 0
pub seal_code_positive : (k p : ℕ) → 0 < seal_code k p
seal_code_positive k p = omega arith

-- what an answer says of the link that it was made of
found_link : (link : ℕ) (i : TermNo) → equal_at link ≡ Some i → link ≡ suc i.0
found_link zero i e = let z : ◌≡◌ {A = ℕ} 0 1 = cc in absurd (omega arith)
found_link (suc n) i e = let q : record { 0 = n } ≡ i = cc in ap (λ (x : TermNo). suc x.0) q

new_link : (link : ℕ) → equal_at link ≡ None → link ≡ 0
new_link zero e = refl
new_link (suc n) e = let z : ◌≡◌ {A = ℕ} 0 1 = cc in absurd (omega arith)

-- a number that has the code, as no other has, is found
pub equal_found : (codes : List ℕ) (code i : ℕ) → i < most_terms → get_or codes i 0 ≡ code →
    ((j : ℕ) → j < most_terms → get_or codes j 0 ≡ code → j ≡ i) → equal_in codes code ≡ Some (record { 0 = i })
unfolding equal_in
equal_found codes code i l e only =
    let here : last (has_code codes code) most_terms ≡ suc i =
    last_at (has_code codes code) most_terms i l (eq-eqb _ _ e)
    (λ j a b. ne_eqb (get_or codes j 0) code (λ q. let same : j ≡ i = only j b q in omega arith)) in
    rw here

-- where nothing has the code, there is none
pub equal_none : (codes : List ℕ) (code : ℕ) → ((j : ℕ) → j < most_terms → ¬ (get_or codes j 0 ≡ code)) → equal_in codes code ≡ None
unfolding equal_in
equal_none codes code no_one =
    let none : last (has_code codes code) most_terms ≡ 0 =
    none_last (has_code codes code) most_terms (λ j h. ne_eqb (get_or codes j 0) code (no_one j h)) in
    rw none

-- what is found has the code
pub found_code : (codes : List ℕ) (code : ℕ) (i : TermNo) → equal_in codes code ≡ Some i → (i.0 < most_terms) × (get_or codes i.0 0 ≡ code)
unfolding equal_in
found_code codes code i e =
    let q : last (has_code codes code) most_terms ≡ suc i.0 = found_link _ i e in
    (omega (arith, last_le (has_code codes code) most_terms), eqb-true _ _ (last_passes (has_code codes code) most_terms i.0 q))

-- where there is none, nothing has the code
pub none_code : (codes : List ℕ) (code i : ℕ) → equal_in codes code ≡ None → i < most_terms → ¬ (get_or codes i 0 ≡ code)
unfolding equal_in
none_code codes code i e h q =
    true≢false (sym (eq-eqb _ _ q) ∙ last_none (has_code codes code) most_terms i (new_link _ e) h)

-- the seal of term number p under key number k
abbrev pub seal_of : (k p : ℕ) → Kind
seal_of k p = Seal (record { 0 = k }) (record { 0 = p })

-- a kind with a seal's code is that seal
code_of_seal : (x : Kind) (k p : ℕ) → p < most_terms → ((j : KeyNo) (q : TermNo) → x ≡ Seal j q → q.0 < most_terms) →
    code_of x ≡ seal_code k p → x ≡ seal_of k p
unfolding code_of
code_of_seal Data k p small inside e = absurd (omega arith)
code_of_seal (Key j) k p small inside e = absurd (omega arith)
code_of_seal (Seal j q) k p small inside e =
    let same : (j.0 ≡ k) × (q.0 ≡ p) = seal_code_same j.0 q.0 k p (inside j q refl) small e in
    ap₂ {C = Kind} (λ (a b : ℕ). seal_of a b) same.0 same.1

module _ (codes : List ℕ) (entries : List Entry)
    (shown : (i : ℕ) → i < most_terms → get_or codes i 0 ≡ code_of (kind_at entries i)) where
  -- an entry that is a seal has the seal's code
  seal_has_code : (k p i : ℕ) → i < most_terms → kind_at entries i ≡ seal_of k p → get_or codes i 0 ≡ seal_code k p
  unfolding code_of
  seal_has_code k p i h e = shown i h ∙ ap code_of e

  -- where the answer is that there is none, no entry is that seal
  pub seal_none : (k p i : ℕ) → equal_in codes (seal_code k p) ≡ None → i < most_terms → ¬ (kind_at entries i ≡ seal_of k p)
  seal_none k p i e h is_seal = none_code codes (seal_code k p) i e h (seal_has_code k p i h is_seal)

  module _ (inside : (i : ℕ) (k : KeyNo) (p : TermNo) → i < most_terms → kind_at entries i ≡ Seal k p → p.0 < most_terms) where
    -- an entry with a seal's code is that seal
    code_is_seal : (k p i : ℕ) → p < most_terms → i < most_terms → get_or codes i 0 ≡ seal_code k p → kind_at entries i ≡ seal_of k p
    code_is_seal k p i small h e =
        code_of_seal (kind_at entries i) k p small (λ j q is_seal. inside i j q h is_seal) (sym (shown i h) ∙ e)

    -- the entry that is found is that seal
    pub seal_found : (k p : ℕ) (i : TermNo) → p < most_terms → equal_in codes (seal_code k p) ≡ Some i →
        (i.0 < most_terms) × (kind_at entries i.0 ≡ seal_of k p)
    seal_found k p i small e =
        let f : (i.0 < most_terms) × (get_or codes i.0 0 ≡ seal_code k p) = found_code codes (seal_code k p) i e in
        (f.0, code_is_seal k p i.0 small f.0 f.1)

    -- where no entry is that seal, the answer is that there is none
    pub seal_new : (k p : ℕ) → p < most_terms → ((i : ℕ) → i < most_terms → ¬ (kind_at entries i ≡ seal_of k p)) →
        equal_in codes (seal_code k p) ≡ None
    seal_new k p small no_one = equal_none codes (seal_code k p) (λ j h e. no_one j h (code_is_seal k p j small h e))

    -- where entry i is that seal and no other is, i is found
    pub seal_at : (k p i : ℕ) → i < most_terms → kind_at entries i ≡ seal_of k p →
        ((j : ℕ) → j < most_terms → kind_at entries j ≡ seal_of k p → j ≡ i) → equal_in codes (seal_code k p) ≡ Some (record { 0 = i })
    seal_at k p i h is_seal only =
        equal_found codes (seal_code k p) i h (seal_has_code k p i h is_seal)
        (λ j l e. only j l (code_is_seal k p j (inside i (record { 0 = k }) (record { 0 = p }) h is_seal) l e))
