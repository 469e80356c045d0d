-- A walk passes a seal whose payload is held, or is no key: it goes on to the next older seal under the same key. Rests on
-- LeakWalk.antt.
use Prim.Native.Nat.{ℕ, ◌<◌}
use mathlib.Core.Path.{◌≡◌, sym, ◌∙◌}
use mathlib.Core.Bool.{true, true≢false}
use mathlib.Core.List.{List}
use native.Mathlib.Omega.{arith}
use lib.Dec.{ltb}
use lib.ListN.{get_or}
use borrow.Author.Tests.{ltb-true, ltb-false}
use Rattle.terms.proofs.Lists.{bool_cases}
use Rattle.std.specs.Prelude.{Option, Some, None}
use Rattle.shapes.specs.declared.Entry.{Entry}
use Rattle.shapes.specs.declared.KeyNo.{KeyNo}
use Rattle.shapes.specs.declared.TermNo.{TermNo}
use Rattle.shapes.specs.declared.Term.TheVariants.{Key, Seal}
use Rattle.running.specs.Leaks.{kind_at, held_at}
use Rattle.token.proofs.ChainsLast.{last_passes, last_above}
use Rattle.running.proofs.LeakSeals.{Ready, SealUnder, under, seal_under, under_seal, seal_below, older_link}
use Rattle.running.proofs.LeakWalk.{Walk, Due, held_now, waits, ahead}

-- the payload of seal i is held, or is no key
abbrev pub Settled : (entries now : List Entry) (i : ℕ) → Type 0
Settled entries now i =
    (p : ℕ) (j l : KeyNo) → kind_at entries i ≡ Seal j (record { 0 = p }) → kind_at entries p ≡ Key l → held_at now p ≡ true

module _
    {entries : List Entry}
    {newest older : List (Option TermNo)}
    {n t : ℕ}
    {now : List Entry}
    {waiting : List ℕ}
    {seal : TermNo}
    (r : Ready entries newest older n)
    (w : Walk entries n t now waiting (Some seal))
  where
    -- the link leads to a seal under the key that is being walked
    pub reached : SealUnder entries w.key seal.0
    reached = under_seal entries w.key seal.0 (last_passes (under entries w.key) w.bound seal.0 (sym w.link_is))

    due_passed : Settled entries now seal.0 → (i p : ℕ) (j l : KeyNo) → kind_at entries i ≡ Seal j (record { 0 = p }) →
        kind_at entries p ≡ Key l → Due now waiting w.key w.bound j.0 i p →
        Due now waiting w.key seal.0 j.0 i p
    due_passed f i p j l s m (held_now h) = held_now h
    due_passed f i p j l s m (waits there) = waits there
    due_passed f i p j l s m (ahead same b) =
        bool_cases (ltb i seal.0) (λ x. ahead same (ltb-true i seal.0 x))
        (λ x.
        bool_cases (ltb seal.0 i)
        (λ y.
        let hit : under entries w.key i ≡ true = rw (← same) (seal_under entries i s) in
        absurd
        (true≢false
        (sym hit ∙ last_above (under entries w.key) w.bound i (omega (arith, w.link_is, ltb-true seal.0 i y)) b)))
        (λ y.
        let here : i ≡ seal.0 = omega (arith, ltb-false i seal.0 x, ltb-false seal.0 i y) in
        held_now (f p j l (rw (← here) s) m)))

    pub walk_passes : Settled entries now seal.0 → Walk entries n t now waiting (get_or older seal.0 None)
    walk_passes f =
        let below : seal.0 < n = seal_below r seal.0 reached.kind in
        record {
          kept = w.kept;
          room = w.room;
          sources = w.sources;
          key = w.key;
          source = w.source;
          bound = seal.0;
          within = omega arith;
          link_is = older_link r seal.0 reached.kind;
          due = λ q p i j l h k s m. due_passed f i p j l s m (w.due q p i j l h k s m);
        }
