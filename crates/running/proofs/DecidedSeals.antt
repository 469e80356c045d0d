-- The commands that make a seal, on what they see: WRAP, ENCRYPT, SEAL. Rests on DecidedBy and DecidedParts.
use Rattle.shapes.specs.declared.TermNo.{TermNo}
use Rattle.std.specs.Prelude.{Option}
use Prim.Native.Nat.{ℕ}
use mathlib.Core.Path.{◌≡◌, refl, sym}
use mathlib.Core.Bool.{Bool, true, false, not, ◌&&◌, ◌||◌, cond, and-false, or-false, or_assoc}
use mathlib.Core.List.{[], ◌∷◌}
use mathlib.Core.Option.{some}
use lib.ListN.{length}
use Rattle.terms.specs.Lists.{some_of}
use Rattle.terms.specs.Terms.{key, seal}
use Rattle.rules.specs.Flags.{W, X, N, T, E, has}
use Rattle.rules.specs.Templates.{Policy}
use Rattle.rules.specs.Commands.{WRAP, ENCRYPT, SEAL}
use Rattle.rules.specs.State.{State, Now, slot, is_live, key_of_slot, flags_of, is_term, term_at, is_key, key_number}
use Rattle.rules.specs.Refusals.{no_keys_encrypted, missing, ◌on◌}
use Rattle.rules.specs.Computing.{judge}
use Rattle.rules.proofs.Sound.{Sound}
use Rattle.rules.proofs.Done.{done}
use Rattle.sheets.specs.Reading.{read_policy}
use Rattle.shapes.specs.declared.Entry.{Entry}
use Rattle.token.specs.Shows.{entry_for}
use Rattle.shapes.specs.Entries.{is_key_entry}
use Rattle.deciding.specs.Decisions.{slot_in, entry_in, decided_wrap, decided_encrypt, decided_seal}
use Rattle.running.proofs.ChangeFor.{seal_change, change_for}
use Rattle.running.proofs.SeenParts.{seen_flags, seen_key, seen_term, entry_held}
use Rattle.running.proofs.Seen.{handle_of, lookup_of, term_number, lookup_entry, key_seen, key_number_seen}
use Rattle.running.proofs.SeenSeals.{equal_for}
use Rattle.running.proofs.DecidedBy.{Decides, refusal_for, decides_by, both_ask, passed_over, asking_opened, value_opened}
use Rattle.running.proofs.DecidedParts.{dead_asked, either_dead_asked, both_alive, flag_asked, missing_asked, there}
use Rattle.running.proofs.DecidedParts.{held_asked, either_missing_asked, both_there, either_held_asked, room_asked}
use Rattle.running.proofs.DecidedParts.{seal_number_lem, seal_changed}

-- WRAP needs W on the first handle, X on the second, and T on the first where the second has N
trust_asked : (now : Now) (a : ℕ) (n : Bool) →
    (n && not (has T (flags_of (slot now a)))) ≡ some_of (missing now) (cond n (T on a ∷ []) [])
unfolding some_of missing
trust_asked now a true = sym (or-false _)
trust_asked now a false = refl

wrap_flags_asked : (s : State) (a b : ℕ) →
    (not (has W (slot_in (handle_of s a)).flags)
    || not (has X (slot_in (handle_of s b)).flags)
    || (has N (slot_in (handle_of s b)).flags && not (has T (slot_in (handle_of s a)).flags))) ≡
    (not (has W (flags_of (slot s.now a))) || (not (has X (flags_of (slot s.now b)))
    || some_of (missing s.now) (cond (has N (flags_of (slot s.now b))) (T on a ∷ []) [])))
wrap_flags_asked s a b =
    rw (
      seen_flags s.now.table (slot s.now a),
      seen_flags s.now.table (slot s.now b),
      ← trust_asked s.now a (has N (flags_of (slot s.now b))),
      or_assoc,
    )

-- WRAP
pub decides_wrap : (p : Policy) (s : State) (a b : ℕ) (outer inner : Entry) (equal : Option TermNo) →
    (is_live (slot s.now a) ≡ true → outer ≡ entry_for s (some (key (key_of_slot (slot s.now a))))) →
    (is_live (slot s.now b) ≡ true → inner ≡ entry_for s (some (key (key_of_slot (slot s.now b))))) →
    (is_live (slot s.now b) ≡ true →
    equal ≡ equal_for s.now.table (seal (key_of_slot (slot s.now a)) (key (key_of_slot (slot s.now b))))) →
    Decides p s (WRAP a b)
    (decided_wrap (handle_of s a) (handle_of s b) outer inner equal
    (length s.now.table))
unfolding asking_opened value_opened change_for seal_change
decides_wrap p s a b outer inner equal is_outer is_inner is_equal =
    decides_by _
    (passed_over 2 _ _ refl (both_ask 3 _ _ (either_dead_asked s a b) (λ live.
    let (la, lb) = both_alive _ _ live in
    passed_over 4 _ _ refl (passed_over 5 _ _ refl (both_ask 6 _ _ (wrap_flags_asked s a b) (λ _.
    passed_over 7 _ _ refl (passed_over 8 _ _ refl (passed_over 9 _ _ (and-false (no_keys_encrypted p)) (passed_over 10 _ _ refl
    (both_ask 11 _ _ (rw (is_equal lb) (room_asked s.now _)) (λ _. refl)))))))))))
    (λ (e : refusal_for p s (WRAP a b) ≡ 0).
    let (la, lb) = both_alive _ _ (done p (judge s) s.now (WRAP a b) e).handles_live in
    let k = seen_key s.now.table (slot s.now a) in
    let m = seen_term s.now.table (slot s.now b) lb in
    let outer_held = entry_held s (key (key_of_slot (slot s.now a))) in
    let inner_held = entry_held s (key (key_of_slot (slot s.now b))) in (
      rw (is_equal lb) (seal_number_lem s.now.table _),
      rw (is_equal lb, k, m, is_outer la, is_inner lb, outer_held, inner_held) (seal_changed s.now.table _ _),
    ))

-- STP+ refuses to encrypt a key
key_asked : (policy : ℕ) {p : Policy} (s : State) (n : ℕ) → read_policy policy ≡ p →
    (no_keys_encrypted (read_policy policy) && is_key_entry (entry_in (lookup_of s n))) ≡
    (no_keys_encrypted p && is_key (term_at s.now n))
key_asked policy s n reads = rw (reads, lookup_entry s n, key_seen s n)

-- ENCRYPT
pub decides_encrypt : (policy : ℕ) {p : Policy} {s : State} (h t : ℕ) (equal : Option TermNo) → read_policy policy ≡ p → Sound s →
    (is_term s.now t ≡ true → equal ≡ equal_for s.now.table (seal (key_of_slot (slot s.now h)) (term_at s.now t))) →
    Decides p s (ENCRYPT h t)
    (decided_encrypt policy (handle_of s h) (lookup_of s t)
    (record { 0 = t }) equal (length s.now.table))
unfolding asking_opened value_opened change_for seal_change
decides_encrypt policy {p} {s} h t equal reads sound is_equal =
    decides_by _
    (passed_over 2 _ _ refl (both_ask 3 _ _ (dead_asked s h) (λ _.
    both_ask 4 _ _ (missing_asked s t) (λ exists.
    passed_over 5 _ _ refl (both_ask 6 _ _ (flag_asked E s h) (λ _.
    both_ask 7 _ _ (held_asked s t) (λ _.
    passed_over 8 _ _ refl (both_ask 9 _ _ (key_asked policy s t reads) (λ _.
    passed_over 10 _ _ refl
    (both_ask 11 _ _ (rw (is_equal (there s.now t exists)) (room_asked s.now _)) (λ _. refl)))))))))))
    (λ (e : refusal_for p s (ENCRYPT h t) ≡ 0).
    let exists = there s.now t (done p (judge s) s.now (ENCRYPT h t) e).terms_exist in (
      rw (is_equal exists) (seal_number_lem s.now.table _),
      rw (is_equal exists, seen_key s.now.table (slot s.now h), term_number sound t exists)
          (seal_changed s.now.table _ _),
    ))

-- SEAL
pub decides_seal : (p : Policy) {s : State} (k t : ℕ) (equal : Option TermNo) → Sound s →
    (is_term s.now k ≡ true → is_term s.now t ≡ true →
    equal ≡ equal_for s.now.table (seal (key_number (term_at s.now k)) (term_at s.now t))) →
    Decides p s (SEAL k t)
    (decided_seal (lookup_of s k) (lookup_of s t) (record { 0 = t }) equal
    (length s.now.table))
unfolding asking_opened value_opened change_for seal_change
decides_seal p {s} k t equal sound is_equal =
    decides_by _
    (passed_over 2 _ _ refl (passed_over 3 _ _ refl (both_ask 4 _ _ (either_missing_asked s k t) (λ exist.
    let (ek, et) = both_there s.now k t exist in
    passed_over 5 _ _ refl (passed_over 6 _ _ refl (both_ask 7 _ _ (either_held_asked s k t) (λ _.
    both_ask 8 _ _ (rw (lookup_entry s k, key_seen s k)) (λ _.
    passed_over 9 _ _ (and-false (no_keys_encrypted p)) (passed_over 10 _ _ refl
    (both_ask 11 _ _ (rw (is_equal ek et) (room_asked s.now _)) (λ _. refl)))))))))))
    (λ (e : refusal_for p s (SEAL k t) ≡ 0).
    let (ek, et) = both_there s.now k t (done p (judge s) s.now (SEAL k t) e).terms_exist in (
      rw (is_equal ek et) (seal_number_lem s.now.table _),
      rw (is_equal ek et, lookup_entry s k, key_number_seen s k, term_number sound t et) (seal_changed s.now.table _ _),
    ))
