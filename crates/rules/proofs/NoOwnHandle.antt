-- Demand 3, STP+: as long as no CORRUPT was done, no live handle stands for a key of the caller's own. Until then every live
-- handle, and the inner key of every done WRAP, is on a key that the token generated. Rests on Roles.
use Prim.Native.Nat.{ℕ}
use mathlib.Core.Path.{◌≡◌, refl, subst}
use mathlib.Core.Bool.{Bool}
use mathlib.Core.List.Memᴰ
use mathlib.Core.List.{[]}
use mathlib.Core.Logic.{⊎_elim}
use native.Mathlib.Omega.{arith}
use Rattle.terms.specs.Lists.{◌∈◌}
use Rattle.terms.specs.Terms.{key}
use Rattle.terms.specs.Compromise.{was_corrupted, is_own, was_wrapped}
use Rattle.rules.specs.Templates.{stp+}
use Rattle.rules.specs.Commands.{GENERATE, WRAP, UNWRAP, ENCRYPT, DECRYPT, CORRUPT, DESTROY, OWN_KEY, OWN_DATA, SEAL}
use Rattle.rules.specs.State.{State, dead, live, fresh, term_at, payload, key_number}
use Rattle.rules.specs.Changes.{answers, changes, giving, all_changes, change_now, change_past, all_of, after}
use Rattle.rules.specs.Refusals.{no_keys_encrypted}
use Rattle.rules.specs.Known.{IsCompromised}
use Rattle.rules.specs.Runs.{Reachable}
use Rattle.rules.proofs.Done.{Done}
use Rattle.rules.proofs.Induction.{reachable_has}
use Rattle.rules.proofs.Named.{wraps_named, unwraps_named}
use Rattle.rules.proofs.Sound.{Sound}
use Rattle.rules.proofs.TemplateFacts.{stp+_separates}
use Rattle.rules.proofs.Beside.{KeptBeside, kept_beside}
use Rattle.rules.proofs.Handles.{fresh_dead, live_handle}
use Rattle.rules.proofs.Births.{BornWith, newborn}
use Rattle.rules.proofs.Generated.{Generated, AllGenerated, generated_wraps, generated_binds, generated_bears}
use Rattle.rules.proofs.Explained.{sealing_key_explained}
use Rattle.rules.proofs.Roles.{SoundRoles, sound_roles_fresh, sound_roles_kept}

-- nothing is corrupted yet: then all is generated
abbrev TillCorrupted : State → Type 0
TillCorrupted s = s.past.corrupted ≡ [] → AllGenerated s.now.handles s.past.births s.past.wraps

-- no key is both the caller's own and generated
not_both : {s : State} {kind : ℕ → Bool} {k : ℕ} → Sound s → key k ∈ s.past.own → BornWith kind s.past.births k → ⊥
not_both i o b = let z : ◌≡◌ {A = ℕ} 0 1 = cc (i.births.own_origin o, i.births.birth_origin b.is_born) in omega arith

-- with nothing corrupted, only the caller's own keys are compromised: the outer key of a done WRAP was generated
compromised_own : {s : State} {k : ℕ} → SoundRoles stp+ s → s.past.corrupted ≡ [] → IsCompromised s k → key k ∈ s.past.own
compromised_own ir none (was_corrupted h) = absurd (Memᴰ.not-nil (rw none at h))
compromised_own ir none (is_own h) = h
compromised_own (i, r) none (was_wrapped w c) = absurd (not_both i (compromised_own (i, r) none c) (r.rights.outer_wraps w))

-- UNWRAP takes a key out from under a generated key, so a WRAP put it there
unwrapped_generated : {s : State} {held : ℕ → Bool} {h t f : ℕ} → SoundRoles stp+ s → s.past.corrupted ≡ []
    → AllGenerated s.now.handles s.past.births s.past.wraps → Done stp+ held s.now (UNWRAP h t f)
    → Generated s.past.births (key_number (payload (term_at s.now t)))
unfolding no_keys_encrypted
unwrapped_generated {s} {t = t} (i, r) none all d =
    let n = unwraps_named d in
    let sealed = subst (λ m. m ∈ s.now.table) n.sealed_key n.the_term.in_table in
    ⊎_elim (λ w. all.inner_keys w)
    (λ c. absurd (not_both i (compromised_own (i, r) none c) (all.handles_on _ n.handle.in_handles refl)))
    (sealing_key_explained (r.explained _ (i.passed.seals_given sealed)))

till_corrupted_fresh : TillCorrupted fresh
unfolding fresh
till_corrupted_fresh none = record { handles_on = λ x h. rw (fresh_dead h) tt; inner_keys = λ h. absurd (Memᴰ.not-nil h) }

till_corrupted_kept : KeptBeside stp+ (SoundRoles stp+) TillCorrupted
unfolding after all_of all_changes changes giving answers change_now change_past
till_corrupted_kept s (GENERATE f) held j d ir all none = generated_binds (generated_bears (all none) _) _ _ (newborn _ f)
till_corrupted_kept s (WRAP a b) held j d ir all none =
    generated_wraps (all none) _ _ ((all none).handles_on _ (live_handle (wraps_named d).inner) refl)
till_corrupted_kept s (UNWRAP h t f) held j d ir all none =
    generated_binds (all none) _ _ (λ _. unwrapped_generated ir none (all none) d)
till_corrupted_kept s (ENCRYPT h t) held j d ir all none = all none
till_corrupted_kept s (DECRYPT h t) held j d ir all none = all none
till_corrupted_kept s (CORRUPT h) held j d ir all none = let z : ◌≡◌ {A = ℕ} 0 1 = cc in absurd (omega arith)
till_corrupted_kept s (DESTROY h) held j d ir all none = generated_binds (all none) h dead tt
till_corrupted_kept s OWN_KEY held j d ir all none = all none
till_corrupted_kept s OWN_DATA held j d ir all none = all none
till_corrupted_kept s (SEAL k t) held j d ir all none = all none

-- under STP+, as long as nothing is corrupted, no live handle stands for a key of the caller's own
pub no_own_handle : {s : State} {k f : ℕ} → Reachable stp+ s → s.past.corrupted ≡ [] → live k f ∈ s.now.handles
    → key k ∈ s.past.own → ⊥
no_own_handle reachable none handle own =
    let (ir, all) = reachable_has (λ s. SoundRoles stp+ s × TillCorrupted s) (sound_roles_fresh, till_corrupted_fresh)
    (kept_beside (SoundRoles stp+) TillCorrupted (sound_roles_kept stp+_separates) till_corrupted_kept) reachable in
    not_both ir.0 own ((all none).handles_on _ handle refl)
