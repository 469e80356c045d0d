-- A walk learns a key: its term becomes held, and its number waits. Rests on LeakWalk.antt.
use Prim.Native.Nat.{ℕ, suc, ◌<◌}
use mathlib.Core.Path.{◌≡◌, refl, ◌∙◌, subst}
use mathlib.Core.Bool.{false}
use mathlib.Core.List.{List, [], ◌∷◌, ◌++◌}
use mathlib.Core.Logic.{inr, ⊎_elim}
use native.Mathlib.Omega.{arith}
use lib.ListN.{length, length-set, length-append}
use Rattle.std.specs.List.{Contains}
use Rattle.std.proofs.lemmas.List.Elements.{Contains-append_left, Contains-append_right, Contains-append_cases}
use Rattle.rules.specs.State.{most_terms}
use Rattle.std.specs.Prelude.{Option}
use Rattle.shapes.specs.declared.Entry.{Entry}
use Rattle.shapes.specs.declared.KeyNo.{KeyNo}
use Rattle.shapes.specs.declared.TermNo.{TermNo}
use Rattle.shapes.specs.declared.Term.TheVariants.{Key}
use Rattle.running.specs.Leaks.{kind_at, held_at, Leak}
use Rattle.running.proofs.LeakCount.{unheld, unheld_set}
use Rattle.running.proofs.LeakMark.{marked, marked_kind, marked_own, marked_still, marked_only}
use Rattle.running.proofs.LeakWalk.{Source, Kept, Walk, Due, held_now, waits, ahead, only_one}

kept_learnt : (entries : List Entry) (t : ℕ) (now : List Entry) (p : ℕ) → Kept entries t now → Leak entries t p →
    Kept entries t (marked now p)
kept_learnt entries t now p k l =
    record {
      same_length = length-set now p _ ∙ k.same_length;
      same_kind = λ i. marked_kind now p i ∙ k.same_kind i;
      same_own = λ i. marked_own now p i ∙ k.same_own i;
      still_held = λ i h. marked_still now p i (k.still_held i h);
      no_other = λ i h. ⊎_elim (k.no_other i) (λ (e : i ≡ p). inr (rw e l)) (marked_only now p i h);
    }

module _
    {entries : List Entry}
    {n t : ℕ}
    {now : List Entry}
    {waiting : List ℕ}
    {link : Option TermNo}
    (w : Walk entries n t now waiting link)
    (p : ℕ)
    {c : ℕ}
    (here : p < length now)
    (is_key : kind_at entries p ≡ Key (record { 0 = c }))
    (not_held : held_at now p ≡ false)
    (led : Leak entries t p)
  where
    one_less : unheld now ≡ suc (unheld (marked now p))
    one_less = unheld_set now p _ here not_held refl

    -- there is room for one more to wait
    pub has_room : length waiting < most_terms
    has_room = omega (arith, w.room, one_less)

    sources_learnt : (x : ℕ) → Contains (waiting ++ c ∷ []) x → Source entries t x
    sources_learnt x there =
        ⊎_elim (w.sources x)
        (λ last. subst (Source entries t) (only_one last) (record { term = p; led = led; is_key = is_key }))
        (Contains-append_cases waiting (c ∷ []) x there)

    due_learnt : (i p' : ℕ) (j : KeyNo) → Due now waiting w.key w.bound j.0 i p' →
        Due (marked now p) (waiting ++ c ∷ []) w.key w.bound j.0 i p'
    due_learnt i p' j (held_now h) = held_now (marked_still now p p' h)
    due_learnt i p' j (waits there) = waits (Contains-append_left waiting (c ∷ []) j.0 there)
    due_learnt i p' j (ahead same l) = ahead same l

    due_new : (q i p' : ℕ) (j : KeyNo) → q ≡ p → kind_at entries q ≡ Key j →
        Due (marked now p) (waiting ++ c ∷ []) w.key w.bound j.0 i p'
    due_new q i p' j e k =
        let k' : kind_at entries p ≡ Key j = rw e at k in
        let same : c ≡ j.0 = cc in
        waits (Contains-append_right waiting (c ∷ []) j.0 (0, omega arith, same))

    pub walk_learns : Walk entries n t (marked now p) (waiting ++ c ∷ []) link
    walk_learns =
        record {
          kept = kept_learnt entries t now p w.kept led;
          room = omega (arith, w.room, one_less, length-append waiting (c ∷ []));
          sources = sources_learnt;
          key = w.key;
          source = w.source;
          bound = w.bound;
          within = w.within;
          link_is = w.link_is;
          due = λ q p' i j l h k s m.
              ⊎_elim (λ h'. due_learnt i p' j (w.due q p' i j l h' k s m)) (λ e. due_new q i p' j e k) (marked_only now p q h);
        }
