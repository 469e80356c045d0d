-- In every state that is reachable under a policy that keeps wrapping and decrypting apart: the rights come from the keys'
-- births, and the terms given are explained. Rests on TemplateFacts, Rights, Explained and the book-keeping.
use Prim.Native.Nat.{ℕ}
use mathlib.Core.Path.{◌≡◌, refl, subst}
use mathlib.Core.Bool.{Bool, true, true≢false}
use mathlib.Core.List.Memᴰ
use mathlib.Core.Logic.{◌⊎◌}
use Rattle.terms.specs.Lists.{◌∈◌}
use Rattle.terms.specs.Terms.{Term, item, key, seal}
use Rattle.terms.specs.Compromise.{◌under◌, was_corrupted, is_own}
use Rattle.terms.specs.WorkingOut.{Held}
use Rattle.rules.specs.Flags.{D, has}
use Rattle.rules.specs.Templates.{Policy}
use Rattle.rules.specs.Commands.{GENERATE, WRAP, UNWRAP, ENCRYPT, DECRYPT, CORRUPT, DESTROY, OWN_KEY, OWN_DATA, SEAL}
use Rattle.rules.specs.State.{State, dead, live, fresh, term_at, payload, key_number}
use Rattle.rules.specs.Changes.{answers, changes, giving, all_changes, change_now, change_past, all_of, after}
use Rattle.rules.specs.Refusals.{no_keys_encrypted, encrypts_key}
use Rattle.rules.specs.Known.{Known, IsCompromised}
use Rattle.rules.specs.Runs.{Judge, Reachable}
use Rattle.rules.proofs.Done.{Done}
use Rattle.rules.proofs.Induction.{Kept, reachable_has}
use Rattle.rules.proofs.Named.{There, generates, wraps_named, unwraps_named, encrypts_named, decrypts_named, seals_named}
use Rattle.rules.proofs.Sound.{Sound}
use Rattle.rules.proofs.SoundKept.{sound_fresh, sound_kept}
use Rattle.rules.proofs.Judging.{known_reached}
use Rattle.rules.proofs.TemplateFacts.{Separates}
use Rattle.rules.proofs.Beside.{KeptBeside, kept_beside}
use Rattle.rules.proofs.NamedHeld.{held_term}
use Rattle.rules.proofs.Handles.{fresh_dead, live_handle}
use Rattle.rules.proofs.Births.{newborn, not_of_kind}
use Rattle.rules.proofs.Rights.{Rights, rights_binds, rights_bears, rights_wraps}
use Rattle.rules.proofs.Explained.{Explained, an_item, a_key, a_wrap, a_seal, AllExplained, key_explained}
use Rattle.rules.proofs.Explained.{sealed_key_explained, reached_compromised}
use Rattle.rules.proofs.Explained.{explained_gives, explained_owns, explained_corrupts, explained_wraps}

-- a term is explained by what has passed, under the policy's rule for answer 9
abbrev pub IsExplained : Policy → State → Term → Type 0
IsExplained p s m = Explained (no_keys_encrypted p) s.past.corrupted s.past.own s.past.wraps m

pub record Roles (p : Policy) (s : State) : Type 0 where
  pub rights : Rights s.now.handles s.past.births s.past.wraps
  pub explained : AllExplained (no_keys_encrypted p) s.past.corrupted s.past.own s.past.wraps s.past.given

module _ {p : Policy} {s : State} (i : Sound s) (r : Roles p s) where
  -- each given key is compromised
  pub given_compromised : {k : ℕ} → key k ∈ s.past.given → IsCompromised s k
  given_compromised h = key_explained (r.explained _ h)

  -- each key sealed directly in the table was wrapped so, or is compromised
  pub sealed_compromised : {j k : ℕ} → seal k (key j) ∈ s.now.table → ((j under k) ∈ s.past.wraps) ⊎ IsCompromised s j
  sealed_compromised h = sealed_key_explained (r.explained _ (i.passed.seals_given h))

  -- every key that the caller can work out is compromised
  pub known_compromised : {k : ℕ} → Known s k → IsCompromised s k
  known_compromised known = reached_compromised r.explained (λ j k h. i.passed.seals_given h) (known_reached i known)

  module _ {held : ℕ → Bool} (judges : Judge s held) where
    -- a term that a done command names is explained
    named_explained : {t : ℕ} → There held s.now t → IsExplained p s (term_at s.now t)
    named_explained {t} there = go (term_at s.now t) there.in_table (held_term judges there)
      where
        go : (m : Term) → m ∈ s.now.table → Held s.past.own s.past.given m → IsExplained p s m
        go (item n) h known = an_item
        go (key k) h known = a_key (known_compromised known)
        go (seal k m) h known = r.explained _ (i.passed.seals_given h)

    -- the seal of an ENCRYPT is explained: a policy that encrypts no keys has refused a key
    encrypted_explained : {h k t : ℕ} → Done p held s.now (ENCRYPT h t) → IsExplained p s (seal k (term_at s.now t))
    unfolding encrypts_key
    encrypted_explained {t = t} d =
        a_seal {m = term_at s.now t} (λ n e. absurd (true≢false (rw (n, e) at d.no_key_encrypted)))
        (named_explained (encrypts_named d).the_term)

    -- the seal of a SEAL is explained: the caller can work its key out
    caller_explained : {k t : ℕ} → Done p held s.now (SEAL k t)
        → IsExplained p s (seal (key_number (term_at s.now k)) (term_at s.now t))
    caller_explained d =
        let n = seals_named d in
        let known = subst (Held s.past.own s.past.given) n.is_key_term (held_term judges n.the_key) in
        a_seal (λ _ _. known_compromised known) (named_explained n.the_term)

    -- the payload of a DECRYPT is explained: the key was generated with D, so not with W, so no WRAP was done under it
    opened_explained : {h t : ℕ} → Done p held s.now (DECRYPT h t) → IsExplained p s (payload (term_at s.now t))
    opened_explained {t = t} d =
        let n = decrypts_named d in
        open_up n.handle.in_handles n.decrypts (subst (IsExplained p s) n.sealed (named_explained n.the_term))
      where
        open_up : {k f : ℕ} {m : Term} → live k f ∈ s.now.handles → has D f ≡ true → IsExplained p s (seal k m)
            → IsExplained p s m
        open_up h decrypts (a_seal u e) = e
        open_up h decrypts (a_wrap w) =
            let born_W = r.rights.outer_wraps w in
            let born_D = r.rights.decrypting _ h decrypts in
            let same_byte = i.births.one_birth born_D.is_born born_W.is_born in
            absurd (r.rights.one_right born_W.is_born born_W.is_of_kind (rw same_byte at born_D.is_of_kind))

roles_fresh : {p : Policy} → Roles p fresh
unfolding fresh
roles_fresh = record {
  rights = record {
    wrapping = λ x h. rw (fresh_dead h) tt;
    decrypting = λ x h. rw (fresh_dead h) tt;
    one_right = λ h w d. Memᴰ.not-nil h;
    outer_wraps = λ h. absurd (Memᴰ.not-nil h);
  };
  explained = λ m h. absurd (Memᴰ.not-nil h);
}

roles_kept : {p : Policy} → Separates p → KeptBeside p Sound (Roles p)
unfolding after all_of all_changes changes giving answers change_now change_past
roles_kept sep s (GENERATE f) held j d i r =
    let bears = rights_bears r.rights _ f (sep.generate_one f (generates d).granted) in
    record { rights = rights_binds bears _ _ (newborn _ f) (newborn _ f); explained = r.explained }
roles_kept sep s (WRAP a b) held j d i r =
    let n = wraps_named d in
    record {
      rights = rights_wraps r.rights _ _ (r.rights.wrapping _ (live_handle n.outer) n.wraps);
      explained = explained_gives (explained_wraps r.explained) (a_wrap (Memᴰ.head refl));
    }
roles_kept sep s (UNWRAP h t f) held j d i r =
    let g = (unwraps_named d).granted in
    record {
      rights = rights_binds r.rights _ _ (not_of_kind _ f (sep.unwrap_no_W f g)) (not_of_kind _ f (sep.unwrap_no_D f g));
      explained = r.explained;
    }
roles_kept sep s (ENCRYPT h t) held j d i r =
    record { rights = r.rights; explained = explained_gives r.explained (encrypted_explained i r j d) }
roles_kept sep s (DECRYPT h t) held j d i r =
    record { rights = r.rights; explained = explained_gives r.explained (opened_explained i r j d) }
roles_kept sep s (CORRUPT h) held j d i r =
    record {
      rights = r.rights;
      explained = explained_gives (explained_corrupts r.explained) (a_key (was_corrupted (Memᴰ.head refl)));
    }
roles_kept sep s (DESTROY h) held j d i r =
    record { rights = rights_binds r.rights h dead tt tt; explained = r.explained }
roles_kept sep s OWN_KEY held j d i r =
    record {
      rights = r.rights;
      explained = explained_gives (explained_owns r.explained) (a_key (is_own (Memᴰ.head refl)));
    }
roles_kept sep s OWN_DATA held j d i r =
    record { rights = r.rights; explained = explained_gives (explained_owns r.explained) an_item }
roles_kept sep s (SEAL k t) held j d i r =
    record { rights = r.rights; explained = explained_gives r.explained (caller_explained i r j d) }

-- the book-keeping and the roles together hold of a fresh token, and every done command keeps them
abbrev pub SoundRoles : Policy → State → Type 0
SoundRoles p s = Sound s × Roles p s

pub sound_roles_fresh : {p : Policy} → SoundRoles p fresh
sound_roles_fresh = (sound_fresh, roles_fresh)

pub sound_roles_kept : {p : Policy} → Separates p → Kept p (SoundRoles p)
sound_roles_kept {p} sep = kept_beside Sound (Roles p) (sound_kept p) (roles_kept sep)

-- so they hold of every reachable state
pub reachable_roles : {p : Policy} {s : State} → Separates p → Reachable p s → SoundRoles p s
reachable_roles {p} sep r = reachable_has (SoundRoles p) sound_roles_fresh (sound_roles_kept sep) r
