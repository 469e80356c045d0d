-- The walk through a bucket's chain for a code: what holds where it begins, at each link, where it ends, and that each link leads
-- to a smaller number. Rests on Views (Findable, equal_in) and on ChainsLast.
use Rattle.std.specs.Prelude.{Option, None, Some}
use Prim.Native.Nat.{ℕ, zero, suc, ◌≤◌, ◌<◌}
use native.Mathlib.Omega.{arith}
use mathlib.Core.Path.{◌≡◌, refl, sym, ap, ◌∙◌}
use mathlib.Core.Bool.{Bool, true, cond}
use mathlib.Core.List.{List}
use mathlib.Core.Logic.{◌≢◌}
use borrow.Author.Tests.{ltb-false, eqb-true, eq-eqb, ne_eqb}
use lib.Dec.{eqb, ltb}
use lib.ListN.{get_or}
use Rattle.rules.specs.State.{most_terms}
use Rattle.terms.proofs.Lists.{bool_cases}
use Rattle.shapes.specs.declared.TermNo.{TermNo}
use Rattle.token.specs.Chains.{as_number, in_chain, last, next_in}
use Rattle.token.specs.Shows.{bucket, bucket_chain}
use Rattle.running.specs.Views.{Findable, equal_in}
use Rattle.token.proofs.ChainsLast.{last_hit, last_miss, last_of_zero, last_le, last_passes, last_cut, last_implied}

-- number i has the code
abbrev pub has_code : (codes : List ℕ) (code i : ℕ) → Bool
has_code codes code i = eqb (get_or codes i 0) code

-- there are 1,024 buckets
pub bucket_inside : (code : ℕ) → bucket code < 1024
unfolding bucket
bucket_inside code = omega arith

-- number i is in bucket c
abbrev bucketed : (codes : List ℕ) (c i : ℕ) → Bool
bucketed codes c i = in_chain (λ j. bucket_chain (get_or codes j 0)) c i

-- the walk is at this link: the last number with the code, if there is one, stands below the link, and what the link leads to is
-- in the code's bucket
pub record Walking (codes : List ℕ) (code : ℕ) (link : Option TermNo) : Type 0 where
  pub low : as_number link ≤ most_terms
  pub below : last (has_code codes code) most_terms ≡ last (has_code codes code) (as_number link)
  pub in_bucket : (i : ℕ) → as_number link ≡ suc i → bucket_chain (get_or codes i 0) ≡ suc (bucket code)

-- the bucket of a code
bucket_of : (code : ℕ) → 0 < code → bucket_chain code ≡ suc (bucket code)
unfolding bucket_chain
bucket_of zero h = absurd (omega arith)
bucket_of (suc c) h = refl

-- what has the code is in its bucket
code_bucketed : (codes : List ℕ) (code i : ℕ) → 0 < code → has_code codes code i ≡ true → bucketed codes (bucket code) i ≡ true
unfolding in_chain
code_bucketed codes code i h e =
    let q : get_or codes i 0 ≡ code = eqb-true _ _ e in
    eq-eqb (bucket_chain (get_or codes i 0)) (suc (bucket code)) (ap bucket_chain q ∙ bucket_of code h)

-- the walk goes on below m with the bucket's last number below m
walking_below : (codes : List ℕ) (code m : ℕ) {link : Option TermNo} → 0 < code → m ≤ most_terms →
    last (has_code codes code) most_terms ≡ last (has_code codes code) m →
    as_number link ≡ last (bucketed codes (bucket code)) m → Walking codes code link
unfolding in_chain
walking_below codes code m h few below is =
    record {
      low = omega (arith, is, last_le (bucketed codes (bucket code)) m);
      below =
          below ∙
          last_implied (has_code codes code) (bucketed codes (bucket code)) m (λ j l e. code_bucketed codes code j h e) ∙
          ap (last (has_code codes code)) (sym is);
      in_bucket = λ i e. eqb-true _ _ (last_passes (bucketed codes (bucket code)) m i (sym is ∙ e));
    }

-- the walk begins at the bucket's first link
pub walk_begins : (heads chain : List (Option TermNo)) (codes : List ℕ) (code : ℕ) → Findable heads chain codes → 0 < code →
    Walking codes code (get_or heads (bucket code) None)
walk_begins heads chain codes code f h =
    walking_below codes code f.count h f.few
    (last_cut (has_code codes code) f.count most_terms f.few
    (λ j a b. ne_eqb (get_or codes j 0) code (λ q. omega (arith, f.blank_past j a))))
    (f.chained.first_link (bucket code) (bucket_inside code))

-- the next link from number i of the code's bucket
next_link_is : (heads chain : List (Option TermNo)) (codes : List ℕ) (code i : ℕ) → Findable heads chain codes → i < most_terms →
    bucket_chain (get_or codes i 0) ≡ suc (bucket code) → as_number (get_or chain i None) ≡ last (bucketed codes (bucket code)) i
unfolding next_in bucket_chain
next_link_is heads chain codes code i f h b =
    f.chained.next_link i h ∙ ap (λ (t : Bool). cond t (next_in chain_of i (chain_of i)) 0) inside ∙ ap (next_in chain_of i) b
  where
    chain_of : ℕ → ℕ
    chain_of j = bucket_chain (get_or codes j 0)

    blank : f.count ≤ i → ⊥
    blank p = let q : 0 ≡ suc (bucket code) = sym (ap bucket_chain (f.blank_past i p)) ∙ b in omega arith

    inside : ltb i f.count ≡ true
    inside = bool_cases (ltb i f.count) (λ e. e) (λ e. absurd (blank (ltb-false _ _ e)))

module _ (heads chain : List (Option TermNo)) (codes : List ℕ) (code : ℕ) (link : Option TermNo) (number : TermNo)
    (f : Findable heads chain codes) (some_code : 0 < code) (w : Walking codes code link) (leads_to : link ≡ Some number) where
  is_suc : as_number link ≡ suc number.0
  is_suc = ap as_number leads_to

  -- the link leads to a number in range
  pub walk_inside : number.0 < most_terms
  walk_inside = omega (arith, w.low, is_suc)

  next_is : as_number (get_or chain number.0 None) ≡ last (bucketed codes (bucket code)) number.0
  next_is = next_link_is heads chain codes code number.0 f walk_inside (w.in_bucket number.0 is_suc)

  -- each link leads to a smaller number
  pub walk_falls : as_number (get_or chain number.0 None) < as_number link
  walk_falls = omega (arith, is_suc, next_is, last_le (bucketed codes (bucket code)) number.0)

  -- the number at hand has the code: it is the one looked for
  pub walk_found : get_or codes number.0 0 ≡ code → Some number ≡ equal_in codes code
  unfolding equal_in
  walk_found e =
      let last_here : last (has_code codes code) most_terms ≡ suc number.0 =
      w.below ∙ ap (last (has_code codes code)) is_suc ∙ last_hit (has_code codes code) number.0 (eq-eqb _ _ e) in
      rw last_here

  -- it has not: the walk goes on
  pub walk_goes_on : get_or codes number.0 0 ≢ code → Walking codes code (get_or chain number.0 None)
  walk_goes_on e =
      walking_below codes code number.0 some_code (omega (arith, walk_inside))
      (w.below ∙ ap (last (has_code codes code)) is_suc ∙ last_miss (has_code codes code) number.0 (ne_eqb _ _ e)) next_is

-- the walk ends at no link: nothing has the code
pub walk_ends : (codes : List ℕ) (code : ℕ) (link : Option TermNo) → Walking codes code link → link ≡ None → None ≡ equal_in codes code
unfolding equal_in
walk_ends codes code link w e =
    let none : last (has_code codes code) most_terms ≡ 0 =
    w.below ∙ ap (λ (l : Option TermNo). last (has_code codes code) (as_number l)) e ∙ last_of_zero (has_code codes code) in
    rw none
