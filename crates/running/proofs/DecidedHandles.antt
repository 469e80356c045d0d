-- The commands that name a handle alone, on what they see of it: DESTROY, CORRUPT. Rests on DecidedBy and Seen.
use Prim.Native.Nat.{ℕ}
use mathlib.Core.Path.{◌≡◌, refl, ap, ◌∙◌}
use mathlib.Core.Bool.{true, and-false}
use mathlib.Core.Option.{some}
use Rattle.terms.specs.Terms.{key}
use Rattle.rules.specs.Templates.{Policy}
use Rattle.rules.specs.Commands.{DESTROY, CORRUPT}
use Rattle.rules.specs.State.{State, slot, is_live, key_of_slot, table_full}
use Rattle.rules.specs.Refusals.{no_keys_encrypted}
use Rattle.rules.specs.Computing.{judge}
use Rattle.rules.proofs.Sound.{Sound}
use Rattle.rules.proofs.Done.{done}
use Rattle.shapes.specs.declared.TermNo.{TermNo}
use Rattle.shapes.specs.declared.Entry.{Entry}
use Rattle.token.specs.Shows.{entry_for}
use Rattle.deciding.specs.Decisions.{decided_destroy, decided_corrupt}
use Rattle.running.proofs.ChangeFor.{change_for}
use Rattle.running.proofs.SeenParts.{seen_term}
use Rattle.running.proofs.Seen.{handle_of, live_key_in}
use Rattle.running.proofs.DecidedBy.{Decides, refusal_for, decides_by, both_ask, passed_over, asking_opened, value_opened}
use Rattle.running.proofs.DecidedParts.{dead_asked, alive, no_room_asked, number_given, gift_changed}

-- DESTROY
pub decides_destroy : (p : Policy) (s : State) (h : ℕ) →
    Decides p s (DESTROY h) (decided_destroy (handle_of s h) (record { 0 = h }))
unfolding asking_opened value_opened change_for
decides_destroy p s h =
    decides_by _
    (passed_over 2 _ _ refl (both_ask 3 _ _ (dead_asked s h) (λ live.
    passed_over 4 _ _ refl (passed_over 5 _ _ refl (passed_over 6 _ _ refl (passed_over 7 _ _ refl (passed_over 8 _ _ refl
    (passed_over 9 _ _ (and-false (no_keys_encrypted p)) (passed_over 10 _ _ refl
    (passed_over 11 _ _ (and-false (table_full s.now)) refl))))))))))
    (λ done. (refl, refl))

-- CORRUPT
pub decides_corrupt : (p : Policy) {s : State} (h : ℕ) (outer : Entry) → Sound s →
    (is_live (slot s.now h) ≡ true → outer ≡ entry_for s (some (key (key_of_slot (slot s.now h))))) →
    Decides p s (CORRUPT h) (decided_corrupt (handle_of s h) outer)
unfolding asking_opened value_opened change_for
decides_corrupt p {s} h outer sound entry =
    decides_by _
    (passed_over 2 _ _ refl (both_ask 3 _ _ (dead_asked s h) (λ live.
    passed_over 4 _ _ refl (passed_over 5 _ _ refl (passed_over 6 _ _ refl (passed_over 7 _ _ refl (passed_over 8 _ _ refl
    (passed_over 9 _ _ (and-false (no_keys_encrypted p)) (passed_over 10 _ _ refl
    (passed_over 11 _ _ (no_room_asked s.now _ (live_key_in sound h (alive _ live))) refl))))))))))
    (λ (e : refusal_for p s (CORRUPT h) ≡ 0).
    let l = alive _ (done p (judge s) s.now (CORRUPT h) e).handles_live in
    let term = seen_term s.now.table (slot s.now h) l in
    let there = live_key_in sound h l in (
      ap (λ (x : TermNo). x.0) term ∙ number_given there,
      rw (term, entry l) (gift_changed s (key (key_of_slot (slot s.now h)))),
    ))
