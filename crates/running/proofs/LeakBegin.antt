-- A walk begins: term t has become held, and its key waits. A leak followed from there is followed from the entries
-- before. Rests on LeakWalk.antt and LeakMark.antt.
use Prim.Native.Nat.{ℕ, suc, ◌<◌}
use mathlib.Core.Path.{◌≡◌, refl, sym, ◌∙◌, ap, subst, fun_ext}
use mathlib.Core.Bool.{true}
use mathlib.Core.List.{List, [], ◌∷◌}
use mathlib.Core.Logic.{inl, inr, ⊎_elim}
use native.Mathlib.Omega.{arith}
use lib.Dec.{ltb}
use lib.ListN.{length, length-set}
use borrow.Author.Tests.{ltb-true, ltb-false}
use Rattle.terms.proofs.Lists.{bool_cases}
use Rattle.rules.specs.State.{most_terms}
use Rattle.std.specs.Prelude.{Option, None}
use Rattle.shapes.specs.declared.Entry.{Entry}
use Rattle.shapes.specs.declared.KeyNo.{KeyNo}
use Rattle.shapes.specs.declared.TermNo.{TermNo}
use Rattle.shapes.specs.declared.Term.{Term as Kind}
use Rattle.shapes.specs.declared.Term.TheVariants.{Data, Key, Seal}
use Rattle.token.specs.Chains.{Linked}
use Rattle.token.specs.Shows.{under_chain}
use Rattle.running.specs.Leaks.{kind_at, held_at, Opens, Leak, the_leak, leads, Followable, Followed}
use Rattle.token.proofs.ChainsLast.{last_of_zero}
use Rattle.running.proofs.LeakCount.{unheld, unheld_le, unheld_set}
use Rattle.running.proofs.LeakMark.{marked, marked_kind, marked_own, marked_here, marked_still, marked_only}
use Rattle.running.proofs.LeakSeals.{Ready, seal_below}
use Rattle.running.proofs.LeakWalk.{Source, Walk, Due, held_now, waits, only_one}

-- where the terms are the same, a leak leads to the same
pub leak_same : (a b : List Entry) (t : ℕ) → ((i : ℕ) → kind_at a i ≡ kind_at b i) → (i : ℕ) → Leak a t i → Leak b t i
leak_same a b t same _ the_leak = the_leak
leak_same a b t same i (leads {q} {p} l o) =
    leads (leak_same a b t same q l)
    (record {
      outer = o.outer;
      inner = o.inner;
      seal_no = o.seal_no;
      in_range = o.in_range;
      outer_kind = sym (same q) ∙ o.outer_kind;
      seal_kind = sym (same o.seal_no) ∙ o.seal_kind;
      inner_kind = sym (same p) ∙ o.inner_kind;
    })

module _
    {entries : List Entry}
    {newest older : List (Option TermNo)}
    {n t : ℕ}
    {k : KeyNo}
    (f : Followable entries newest older n t k)
  where
    -- the leaking term lies in the table
    pub leak_below : t < n
    leak_below =
        bool_cases (ltb t n) (λ b. ltb-true t n b)
        (λ b.
        let blank : kind_at entries t ≡ Data = ap (λ e. e.term) (f.blank_past t (ltb-false t n b)) in
        let is_key : kind_at entries t ≡ Key k = f.is_key in
        let z : ◌≡◌ {A = ℕ} 0 1 = cc in absurd (omega arith))

    pub leak_inside : t < most_terms
    leak_inside = omega (arith, leak_below, f.few)

    has_entry : t < length entries
    has_entry = omega (arith, leak_inside, f.whole)

    pub leak_marked : held_at (marked entries t) t ≡ true
    leak_marked = marked_here entries t has_entry

    pub marked_ready : Ready (marked entries t) newest older n
    marked_ready =
        record {
          whole = length-set entries t _ ∙ f.whole;
          few = f.few;
          none_past = λ i l. marked_kind entries t i ∙ ap (λ e. e.term) (f.blank_past i l);
          keys_inside = λ i j e. f.keys_inside i j (sym (marked_kind entries t i) ∙ e);
          seals_inside = λ i j p e. (f.seals_inside i j p (sym (marked_kind entries t i) ∙ e)).1;
          chained =
              subst (λ (x : ℕ → Kind). Linked (λ i. under_chain (x i)) newest older n)
              (fun_ext (λ i. sym (marked_kind entries t i))) f.chained;
        }

    opens_before : (q p i : ℕ) (j l : KeyNo) → i < most_terms → kind_at (marked entries t) q ≡ Key j →
        kind_at (marked entries t) i ≡ Seal j (record { 0 = p }) → kind_at (marked entries t) p ≡ Key l → Opens entries q p
    opens_before q p i j l b x s y =
        record {
          outer = j;
          inner = l;
          seal_no = i;
          in_range = b;
          outer_kind = sym (marked_kind entries t q) ∙ x;
          seal_kind = sym (marked_kind entries t i) ∙ s;
          inner_kind = sym (marked_kind entries t p) ∙ y;
        }

    -- what was held before opens only what is held now
    opened_before : (q p : ℕ) → held_at entries q ≡ true → Opens entries q p → held_at (marked entries t) p ≡ true
    opened_before q p h o =
        ⊎_elim (marked_still entries t p) (λ (e : p ≡ t). rw e leak_marked) (f.closed q p h o)

    one_less : unheld entries ≡ suc (unheld (marked entries t))
    one_less = unheld_set entries t _ has_entry f.not_held refl

    module _ {waiting : List ℕ} (one : waiting ≡ k.0 ∷ []) where
      due_begun : (q p i : ℕ) (j l : KeyNo) → held_at (marked entries t) q ≡ true → kind_at (marked entries t) q ≡ Key j →
          kind_at (marked entries t) i ≡ Seal j (record { 0 = p }) → kind_at (marked entries t) p ≡ Key l →
          Due (marked entries t) waiting k.0 0 j.0 i p
      due_begun q p i j l h x s y =
          let below : i < n = seal_below marked_ready i s in
          ⊎_elim
          (λ before. held_now (opened_before q p before (opens_before q p i j l (omega (arith, f.few)) x s y)))
          (λ (e : q ≡ t).
          let is_key : kind_at entries t ≡ Key k = f.is_key in
          let is_key' : kind_at entries t ≡ Key j = rw e at (sym (marked_kind entries t q) ∙ x) in
          let same : k.0 ≡ j.0 = cc in
          waits (rw one (0, omega arith, same)))
          (marked_only entries t q h)

      pub walk_begins : Walk (marked entries t) n t (marked entries t) waiting None
      walk_begins =
          let is_key : kind_at (marked entries t) t ≡ Key k = marked_kind entries t t ∙ f.is_key in
          let source : Source (marked entries t) t k.0 = record { term = t; led = the_leak; is_key = is_key } in
          record {
            kept =
                record {
                  same_length = refl;
                  same_kind = λ i. refl;
                  same_own = λ i. refl;
                  still_held = λ i h. h;
                  no_other = λ i h. inl h;
                };
            room = rw one (omega (arith, unheld_le entries, one_less, f.whole));
            sources = λ c there. subst (Source (marked entries t) t) (only_one (rw one at there)) source;
            key = k.0;
            source = source;
            bound = 0;
            within = omega arith;
            link_is = sym (last_of_zero _);
            due = due_begun;
          }

    -- following from there is following from the entries before
    pub followed_before : {result : List Entry} → Followed (marked entries t) t result → Followed entries t result
    followed_before g =
        record {
          same_length = g.same_length ∙ length-set entries t _;
          same_kind = λ i. g.same_kind i ∙ marked_kind entries t i;
          same_own = λ i. g.same_own i ∙ marked_own entries t i;
          still_held = λ i h. g.still_held i (marked_still entries t i h);
          leak_held = λ i l. g.leak_held i (leak_same entries (marked entries t) t (λ x. sym (marked_kind entries t x)) i l);
          no_other = λ i h.
              ⊎_elim (λ x. ⊎_elim inl (λ (e : i ≡ t). inr (rw e the_leak)) (marked_only entries t i x))
              (λ l. inr (leak_same (marked entries t) entries t (marked_kind entries t) i l)) (g.no_other i h);
        }
