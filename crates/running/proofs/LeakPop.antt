-- A walk takes the next key that waits, once no seal of the last one is left. Rests on LeakWalk.antt.
use Prim.Native.Nat.{ℕ, ◌<◌}
use mathlib.Core.Path.{◌≡◌, refl, sym}
use mathlib.Core.List.{List, [], ◌∷◌, ◌++◌}
use mathlib.Core.Logic.{⊎_elim}
use native.Mathlib.Omega.{arith}
use lib.ListN.{get_or, length-append}
use Rattle.std.proofs.lemmas.List.Elements.{Contains-append_left, Contains-append_right, Contains-append_cases}
use Rattle.rules.specs.State.{most_terms}
use Rattle.std.specs.Prelude.{Option, None}
use Rattle.shapes.specs.declared.Entry.{Entry}
use Rattle.shapes.specs.declared.KeyNo.{KeyNo}
use Rattle.shapes.specs.declared.TermNo.{TermNo}
use Rattle.shapes.specs.declared.Term.TheVariants.{Seal}
use Rattle.running.specs.Leaks.{kind_at}
use Rattle.running.proofs.LeakSeals.{Ready, seal_below, newest_link}
use Rattle.running.proofs.LeakWalk.{Source, Walk, Due, held_now, waits, ahead, only_one, none_ahead}

-- a key that the leak leads to has its place in the table
pub source_inside : {entries : List Entry} {newest older : List (Option TermNo)} {n t c : ℕ} →
    Ready entries newest older n → Source entries t c → c < most_terms
source_inside r s = r.keys_inside s.term _ s.is_key

module _
    {entries : List Entry}
    {newest older : List (Option TermNo)}
    {n t : ℕ}
    {now : List Entry}
    (waiting : List ℕ)
    (c : ℕ)
    (r : Ready entries newest older n)
    (w : Walk entries n t now (waiting ++ c ∷ []) None)
  where
    -- the key that is taken is one that the leak leads to
    pub taken : Source entries t c
    taken = w.sources c (Contains-append_right waiting (c ∷ []) c (0, omega arith, refl))

    due_popped : (i p : ℕ) (j : KeyNo) → kind_at entries i ≡ Seal j (record { 0 = p }) →
        Due now (waiting ++ c ∷ []) w.key w.bound j.0 i p → Due now waiting c n j.0 i p
    due_popped i p j s (held_now h) = held_now h
    due_popped i p j s (waits there) =
        ⊎_elim waits (λ last. ahead (sym (only_one last)) (seal_below r i s)) (Contains-append_cases waiting (c ∷ []) j.0 there)
    due_popped i p j s (ahead same l) = absurd (none_ahead entries w.key w.bound i w.link_is s same l)

    pub walk_pops : Walk entries n t now waiting (get_or newest c None)
    walk_pops =
        record {
          kept = w.kept;
          room = omega (arith, w.room, length-append waiting (c ∷ []));
          sources = λ x there. w.sources x (Contains-append_left waiting (c ∷ []) x there);
          key = c;
          source = taken;
          bound = n;
          within = omega arith;
          link_is = newest_link r c (source_inside r taken);
          due = λ q p i j l h k s m. due_popped i p j s (w.due q p i j l h k s m);
        }
