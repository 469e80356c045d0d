-- The seals under one key, as the chains of a table lead through them. Rests on the definitions alone.
use Prim.Native.Nat.{ℕ, suc, ◌≤◌, ◌<◌}
use mathlib.Core.Path.{◌≡◌, refl, ◌∙◌}
use mathlib.Core.Bool.{Bool, true}
use mathlib.Core.List.{List}
use native.Mathlib.Omega.{arith}
use lib.Dec.{eqb, ltb}
use lib.ListN.{length, get_or}
use borrow.Author.Tests.{eqb-true, eq-eqb, ltb-true, ltb-false, lt-ltb}
use Rattle.std.specs.Prelude.{Option, None}
use Rattle.terms.proofs.Lists.{bool_cases}
use Rattle.rules.specs.State.{most_terms}
use Rattle.shapes.specs.declared.Entry.{Entry}
use Rattle.shapes.specs.declared.KeyNo.{KeyNo}
use Rattle.shapes.specs.declared.TermNo.{TermNo}
use Rattle.shapes.specs.declared.Term.{Term as Kind}
use Rattle.shapes.specs.declared.Term.TheVariants.{Data, Key, Seal}
use Rattle.token.specs.Chains.{Linked, as_number, last, in_chain, next_in}
use Rattle.token.specs.Shows.{under_chain}
use Rattle.running.specs.Leaks.{kind_at}

-- a table that can be walked: numbers lie inside it, no seal stands past its end, seals under one key are chained
pub record Ready (entries : List Entry) (newest older : List (Option TermNo)) (n : ℕ) : Type 0 where
  pub whole : length entries ≡ most_terms
  pub few : n ≤ most_terms
  pub none_past : (i : ℕ) → n ≤ i → kind_at entries i ≡ Data
  pub keys_inside : (i : ℕ) (k : KeyNo) → kind_at entries i ≡ Key k → k.0 < most_terms
  pub seals_inside : (i : ℕ) (k : KeyNo) (p : TermNo) → kind_at entries i ≡ Seal k p → p.0 < most_terms
  pub chained : Linked (λ i. under_chain (kind_at entries i)) newest older n

-- is number i a seal under key number c?
abbrev pub under : List Entry → (c : ℕ) → ℕ → Bool
under entries c = in_chain (λ i. under_chain (kind_at entries i)) c

-- number i is a seal under key number c
pub record SealUnder (entries : List Entry) (c i : ℕ) : Type 0 where
  pub payload : TermNo
  pub kind : kind_at entries i ≡ Seal (record { 0 = c }) payload

-- a seal under a key passes the test of its chain, and what passes is one
pub seal_under : (entries : List Entry) (i : ℕ) {k : KeyNo} {p : TermNo} → kind_at entries i ≡ Seal k p →
    under entries k.0 i ≡ true
unfolding in_chain under_chain
seal_under entries i {k} e = rw e (eq-eqb (suc k.0) (suc k.0) refl)

under_seal_of : (entries : List Entry) (c i : ℕ) (x : Kind) → kind_at entries i ≡ x → eqb (under_chain x) (suc c) ≡ true →
    SealUnder entries c i
unfolding under_chain
under_seal_of entries c i Data e h = absurd (omega (arith, eqb-true 0 (suc c) h))
under_seal_of entries c i (Key k) e h = absurd (omega (arith, eqb-true 0 (suc c) h))
under_seal_of entries c i (Seal k p) e h =
    let same : k.0 ≡ c = omega (arith, eqb-true (suc k.0) (suc c) h) in
    record { payload = p; kind = e ∙ rw same }

pub under_seal : (entries : List Entry) (c i : ℕ) → under entries c i ≡ true → SealUnder entries c i
unfolding in_chain
under_seal entries c i h = under_seal_of entries c i (kind_at entries i) refl h

module _ {entries : List Entry} {newest older : List (Option TermNo)} {n : ℕ} (r : Ready entries newest older n) where
  -- a seal lies below the end
  pub seal_below : (i : ℕ) {k : KeyNo} {p : TermNo} → kind_at entries i ≡ Seal k p → i < n
  seal_below i e =
      bool_cases (ltb i n) (λ b. ltb-true i n b)
      (λ b.
      let none : kind_at entries i ≡ Data = r.none_past i (ltb-false i n b) in
      let z : ◌≡◌ {A = ℕ} 0 1 = cc in absurd (omega arith))

  -- a key's first link leads to the newest seal under it
  pub newest_link : (c : ℕ) → c < most_terms → as_number (get_or newest c None) ≡ last (under entries c) n
  newest_link c l = r.chained.first_link c l

  -- a seal's link leads to the next older one under the same key
  pub older_link : (i : ℕ) {k : KeyNo} {p : TermNo} → kind_at entries i ≡ Seal k p →
      as_number (get_or older i None) ≡ last (under entries k.0) i
  unfolding next_in under_chain
  older_link i e =
      let l : i < n = seal_below i e in
      let b : ltb i n ≡ true = lt-ltb i n l in
      r.chained.next_link i (omega (arith, r.few)) ∙ rw (b, e)
