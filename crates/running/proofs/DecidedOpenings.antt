-- The commands that open a seal, on what they see: UNWRAP, DECRYPT. Rests on DecidedBy, DecidedParts and SeenFree.
use Prim.Native.Nat.{ℕ}
use mathlib.Core.Path.{◌≡◌, refl, sym, ap, ◌∙◌}
use mathlib.Core.Bool.{Bool, true, false, not, ◌&&◌, and-false, or-false}
use mathlib.Core.Option.{some}
use lib.Dec.{leb}
use borrow.Author.Tests.{not-false}
use Rattle.terms.specs.Terms.{Term}
use Rattle.rules.specs.Flags.{U, D}
use Rattle.rules.specs.Templates.{Policy}
use Rattle.rules.specs.Commands.{UNWRAP, DECRYPT}
use Rattle.rules.specs.State.{State, slot, key_of_slot, term_at, is_key, payload, table_full}
use Rattle.rules.specs.Refusals.{no_keys_encrypted, sealed_under}
use Rattle.rules.specs.Computing.{judge}
use Rattle.rules.proofs.Sound.{Sound}
use Rattle.rules.proofs.Done.{done}
use Rattle.rules.proofs.Named.{both}
use Rattle.sheets.specs.Reading.{read_policy}
use Rattle.shapes.specs.declared.HandleNo.{HandleNo}
use Rattle.shapes.specs.declared.Entry.{Entry}
use Rattle.token.specs.Shows.{entry_for}
use Rattle.shapes.specs.Entries.{is_key_entry, is_sealed_under}
use Rattle.deciding.specs.Decisions.{slot_in, entry_in, decided_unwrap, decided_decrypt}
use Rattle.running.proofs.ChangeFor.{change_for}
use Rattle.running.proofs.SeenParts.{or_item, seen_key, entry_is_key, entry_key}
use Rattle.running.proofs.Seen.{handle_of, lookup_of, lookup_entry, under_seen, payload_seen, payload_in}
use Rattle.running.proofs.SeenFree.{free_for, full_seen, free_handle_seen}
use Rattle.running.proofs.DecidedBy.{Decides, refusal_for, decides_by, both_ask, passed_over, asking_opened, value_opened}
use Rattle.running.proofs.DecidedParts.{dead_asked, flag_asked, missing_asked, held_asked, no_room_asked}
use Rattle.running.proofs.DecidedParts.{number_given, gift_changed}

-- the term is sealed under the handle's key
under_asked : (s : State) (h t : ℕ) →
    is_sealed_under (slot_in (handle_of s h)).key
    (entry_in (lookup_of s t)).term ≡
    sealed_under (key_of_slot (slot s.now h)) (term_at s.now t)
under_asked s h t = rw (seen_key s.now.table (slot s.now h), lookup_entry s t) (under_seen s _ t)

-- the payload is a key, where the term is sealed
both_same : (a b c : Bool) → (a ≡ true → b ≡ c) → (a && b) ≡ (a && c)
both_same true b c same = same refl
both_same false b c same = refl

key_of_payload : (s : State) (m : Term) → is_key_entry (entry_for s (some m)) ≡ is_key m
unfolding or_item
key_of_payload s m = entry_is_key s (some m)

wrapped_asked : (s : State) (h t : ℕ) (inner : Entry) →
    (sealed_under (key_of_slot (slot s.now h)) (term_at s.now t) ≡ true →
    inner ≡ entry_for s (some (payload (term_at s.now t)))) →
    not
    (is_sealed_under (slot_in (handle_of s h)).key
    (entry_in (lookup_of s t)).term && is_key_entry inner) ≡
    not (sealed_under (key_of_slot (slot s.now h)) (term_at s.now t) && is_key (payload (term_at s.now t)))
wrapped_asked s h t inner is_inner =
    ap (λ (x : Bool). not (x && is_key_entry inner)) (under_asked s h t) ∙
    ap not (both_same _ (is_key_entry inner) _ (λ e. ap is_key_entry (is_inner e) ∙ key_of_payload s (payload (term_at s.now t))))

-- DECRYPT
pub decides_decrypt : (p : Policy) {s : State} (h t : ℕ) (inner : Entry) → Sound s →
    (sealed_under (key_of_slot (slot s.now h)) (term_at s.now t) ≡ true →
    inner ≡ entry_for s (some (payload (term_at s.now t)))) →
    Decides p s (DECRYPT h t)
    (decided_decrypt (handle_of s h) (lookup_of s t) inner)
unfolding asking_opened value_opened change_for
decides_decrypt p {s} h t inner sound is_inner =
    decides_by _
    (passed_over 2 _ _ refl (both_ask 3 _ _ (dead_asked s h) (λ _.
    both_ask 4 _ _ (missing_asked s t) (λ _.
    passed_over 5 _ _ refl (both_ask 6 _ _ (flag_asked D s h) (λ _.
    both_ask 7 _ _ (held_asked s t) (λ _.
    both_ask 8 _ _ (ap not (under_asked s h t)) (λ kind.
    passed_over 9 _ _ (and-false (no_keys_encrypted p)) (passed_over 10 _ _ refl
    (passed_over 11 _ _ (no_room_asked s.now _ (payload_in sound _ t (not-false _ kind))) refl))))))))))
    (λ (e : refusal_for p s (DECRYPT h t) ≡ 0).
    let sealed = not-false _ (done p (judge s) s.now (DECRYPT h t) e).right_kind in
    let number = payload_seen s _ t sealed in (
      rw (lookup_entry s t, number) (number_given (payload_in sound _ t sealed)),
      rw (lookup_entry s t, number, is_inner sealed) (gift_changed s (payload (term_at s.now t))),
    ))

-- UNWRAP
pub decides_unwrap : (policy : ℕ) {p : Policy} (s : State) (h t f : ℕ) (inner : Entry) → read_policy policy ≡ p →
    (sealed_under (key_of_slot (slot s.now h)) (term_at s.now t) ≡ true →
    inner ≡ entry_for s (some (payload (term_at s.now t)))) →
    Decides p s (UNWRAP h t f)
    (decided_unwrap policy (handle_of s h) (lookup_of s t) f inner
    (free_for s.now))
unfolding asking_opened value_opened change_for or_item
decides_unwrap policy {p} s h t f inner reads is_inner =
    decides_by _
    (both_ask 2 _ _ (sym (or-false (leb 128 f))) (λ _.
    both_ask 3 _ _ (dead_asked s h) (λ _.
    both_ask 4 _ _ (missing_asked s t) (λ _.
    both_ask 5 _ _ (rw reads) (λ _.
    both_ask 6 _ _ (flag_asked U s h) (λ _.
    both_ask 7 _ _ (held_asked s t) (λ _.
    both_ask 8 _ _ (wrapped_asked s h t inner is_inner) (λ _.
    passed_over 9 _ _ (and-false (no_keys_encrypted p)) (both_ask 10 _ _ (full_seen s.now) (λ _.
    passed_over 11 _ _ (and-false (table_full s.now)) refl))))))))))
    (λ (e : refusal_for p s (UNWRAP h t f) ≡ 0).
    let d = done p (judge s) s.now (UNWRAP h t f) e in
    let (sealed, a_key) = both _ _ (not-false _ d.right_kind) in
    let free = free_handle_seen s.now d.handle_free in (
      ap (λ (x : HandleNo). x.0) free,
      rw (free, is_inner sealed, lookup_entry s t, payload_seen s _ t sealed, entry_key s (some (payload (term_at s.now t)))),
    ))
