-- Chains that are kept: one more number that is in no chain, or that becomes the first of its chain; the chains of no number at
-- all; and that the links are settled by which number is in which chain. Rests on ChainsLast and on the list libraries.
use Prim.Native.Nat.{ℕ, zero, suc, ◌≤◌, ◌<◌}
use native.Mathlib.Omega.{arith}
use mathlib.Core.Path.{◌≡◌, refl, sym, ap, ◌∙◌}
use mathlib.Core.Bool.{true, false, cond}
use mathlib.Core.List.{List}
use borrow.Author.Tests.{ltb-true, ltb-false, lt-ltb, le-ltb, eq-eqb, ne_eqb}
use lib.Dec.{eqb, ltb}
use lib.ListN.{get_or, set, replicate, length-set, length-replicate, get_or-replicate}
use lib.Seq.{ext_get_or, get_or-set_same, get_or-set_other}
use mathlib.Core.Logic.{◌≢◌}
use Rattle.terms.proofs.Lists.{bool_cases}
use Rattle.std.specs.Prelude.{Option, Some, None}
use Rattle.shapes.specs.declared.TermNo.{TermNo}
use Rattle.token.specs.Chains.{Linked, as_number, in_chain, last, next_in, places}
use Rattle.token.proofs.ChainsLast.{below_or_same, last_hit, last_miss, last_of_zero, last_same}

-- two ways to chain that agree below n link the numbers below n alike
last_agree : (f g : ℕ → ℕ) (c n : ℕ) → ((i : ℕ) → i < n → f i ≡ g i) → last (in_chain f c) n ≡ last (in_chain g c) n
unfolding in_chain
last_agree f g c n same =
    last_same (in_chain f c) (in_chain g c) n (λ i h. ap (λ (x : ℕ). eqb x (suc c)) (same i h))

next_agree : (f g : ℕ → ℕ) (i x : ℕ) → ((j : ℕ) → j < i → f j ≡ g j) → next_in f i x ≡ next_in g i x
unfolding next_in
next_agree f g i zero same = refl
next_agree f g i (suc c) same = last_agree f g c i same

-- the link that number i carries, where n numbers are linked
abbrev link_of : (f : ℕ → ℕ) (n i : ℕ) → ℕ
link_of f n i = cond (ltb i n) (next_in f i (f i)) 0

link_below : (f : ℕ → ℕ) (n i : ℕ) → i < n → link_of f n i ≡ next_in f i (f i)
link_below f n i h = let e : ltb i n ≡ true = lt-ltb i n h in rw e

link_past : (f : ℕ → ℕ) (n i : ℕ) → n ≤ i → link_of f n i ≡ 0
link_past f n i h = let e : ltb i n ≡ false = le-ltb i n h in rw e

-- the links stand where the numbers below n keep their chains
pub linked_same : {f g : ℕ → ℕ} {firsts nexts : List (Option TermNo)} {n : ℕ} → ((i : ℕ) → i < n → f i ≡ g i) → Linked f firsts nexts n →
    Linked g firsts nexts n
linked_same {f} {g} {firsts} {nexts} {n} same a =
    record {
      firsts_length = a.firsts_length;
      nexts_length = a.nexts_length;
      first_link = λ c h. a.first_link c h ∙ last_agree f g c n same;
      next_link = λ i h. a.next_link i h ∙ links i;
    }
  where
    links : (i : ℕ) → link_of f n i ≡ link_of g n i
    links i =
        bool_cases (ltb i n)
        (λ e. let h : i < n = ltb-true i n e in
        let q : f i ≡ g i = same i h in
        link_below f n i h ∙ next_agree f g i (f i) (λ j l. same j (omega arith)) ∙ ap (next_in g i) q ∙
        sym (link_below g n i h))
        (λ e. let h : n ≤ i = ltb-false i n e in link_past f n i h ∙ sym (link_past g n i h))

-- with one more number every other number carries the same link
link_other : (f : ℕ → ℕ) (n i : ℕ) → i ≢ n → link_of f n i ≡ link_of f (suc n) i
link_other f n i d =
    bool_cases (ltb i n) (λ e. let h : i < n = ltb-true i n e in link_below f n i h ∙ sym (link_below f (suc n) i (omega arith)))
    (λ e. let h : n ≤ i = ltb-false i n e in link_past f n i h ∙ sym (link_past f (suc n) i (omega arith)))

-- one more number that is in no chain
pub linked_none : {f : ℕ → ℕ} {firsts nexts : List (Option TermNo)} {n : ℕ} → f n ≡ 0 → Linked f firsts nexts n → Linked f firsts nexts (suc n)
unfolding in_chain next_in
linked_none {f} {firsts} {nexts} {n} e a =
    record {
      firsts_length = a.firsts_length;
      nexts_length = a.nexts_length;
      first_link = λ c h. a.first_link c h ∙ sym (last_miss (in_chain f c) n (ne_eqb (f n) (suc c) (λ q. omega arith)));
      next_link = λ i h. a.next_link i h ∙ links i;
    }
  where
    here : link_of f n n ≡ link_of f (suc n) n
    here = link_past f n n (omega arith) ∙ sym (link_below f (suc n) n (omega arith) ∙ ap (next_in f n) e)

    links : (i : ℕ) → link_of f n i ≡ link_of f (suc n) i
    links i =
        below_or_same i n (λ less. link_other f n i (omega arith)) (λ (q : i ≡ n). rw q here)
        (λ more. link_other f n i (omega arith))

-- one more number, the first of chain c
pub linked_more : {f : ℕ → ℕ} {firsts nexts : List (Option TermNo)} {n : ℕ} (c : ℕ) → f n ≡ suc c → n < places → c < places →
    Linked f firsts nexts n → Linked f (set firsts c (Some (record { 0 = n }))) (set nexts n (get_or firsts c None)) (suc n)
unfolding in_chain next_in
linked_more {f} {firsts} {nexts} {n} c e h l a =
    record {
      firsts_length = length-set firsts c link ∙ a.firsts_length;
      nexts_length = length-set nexts n (get_or firsts c None) ∙ a.nexts_length;
      first_link = first;
      next_link = next;
    }
  where
    link : Option TermNo
    link = Some (record { 0 = n })

    here : as_number (get_or (set firsts c link) c None) ≡ last (in_chain f c) (suc n)
    here =
        ap as_number (get_or-set_same firsts c link None (omega (arith, a.firsts_length))) ∙
        sym (last_hit (in_chain f c) n (eq-eqb (f n) (suc c) e))

    other : (d : ℕ) → d < places → d ≢ c → as_number (get_or (set firsts c link) d None) ≡ last (in_chain f d) (suc n)
    other d m x =
        ap as_number (get_or-set_other firsts c d link None x) ∙ a.first_link d m ∙
        sym (last_miss (in_chain f d) n (ne_eqb (f n) (suc d) (λ q. x (omega arith))))

    first : (d : ℕ) → d < places → as_number (get_or (set firsts c link) d None) ≡ last (in_chain f d) (suc n)
    first d m =
        below_or_same d c (λ less. other d m (omega arith)) (λ (q : d ≡ c). rw q here) (λ more. other d m (omega arith))

    next_here : as_number (get_or (set nexts n (get_or firsts c None)) n None) ≡ link_of f (suc n) n
    next_here =
        ap as_number (get_or-set_same nexts n (get_or firsts c None) None (omega (arith, a.nexts_length))) ∙ a.first_link c l ∙
        sym (link_below f (suc n) n (omega arith) ∙ ap (next_in f n) e)

    next_other : (i : ℕ) → i < places → i ≢ n → as_number (get_or (set nexts n (get_or firsts c None)) i None) ≡ link_of f (suc n) i
    next_other i m x =
        ap as_number (get_or-set_other nexts n i (get_or firsts c None) None x) ∙ a.next_link i m ∙ link_other f n i x

    next : (i : ℕ) → i < places → as_number (get_or (set nexts n (get_or firsts c None)) i None) ≡ link_of f (suc n) i
    next i m =
        below_or_same i n (λ less. next_other i m (omega arith)) (λ (q : i ≡ n). rw q next_here)
        (λ more. next_other i m (omega arith))

-- of no number there is no link
pub linked_blank : (f : ℕ → ℕ) → Linked f (replicate places None) (replicate places None) 0
linked_blank f =
    record {
      firsts_length = length-replicate {A = Option TermNo} places None;
      nexts_length = length-replicate {A = Option TermNo} places None;
      first_link = λ c h. ap as_number (get_or-replicate {A = Option TermNo} places c None None h) ∙ sym (last_of_zero (in_chain f c));
      next_link = λ i h. ap as_number (get_or-replicate {A = Option TermNo} places i None None h) ∙ sym (link_past f 0 i (omega arith));
    }

-- a link is settled by its number
as_number_same : (a b : Option TermNo) → as_number a ≡ as_number b → a ≡ b
as_number_same None None e = refl
as_number_same None (Some t) e = absurd (omega (arith, e))
as_number_same (Some t) None e = absurd (omega (arith, e))
as_number_same (Some t) (Some u) e = ap (λ (n : ℕ). Some (record { 0 = n })) (omega (arith, e))

-- there is one way to link
pub linked_unique : {f : ℕ → ℕ} {firsts nexts firsts' nexts' : List (Option TermNo)} {n : ℕ} → Linked f firsts nexts n →
    Linked f firsts' nexts' n → (firsts ≡ firsts') × (nexts ≡ nexts')
linked_unique {f} {firsts} {nexts} {firsts'} {nexts'} {n} a b = (
  ext_get_or None firsts firsts' (a.firsts_length ∙ sym b.firsts_length)
      (λ c h. let l : c < places = omega (arith, a.firsts_length) in as_number_same _ _ (a.first_link c l ∙ sym (b.first_link c l))),
  ext_get_or None nexts nexts' (a.nexts_length ∙ sym b.nexts_length)
      (λ i h. let l : i < places = omega (arith, a.nexts_length) in as_number_same _ _ (a.next_link i l ∙ sym (b.next_link i l))),
)
