-- Every reachable state is sound: a fresh token is, and every done command is made of changes that keep it so, one line or two a
-- command. Rests on Named for what a done command names, and on SoundChanges.
use Prim.Native.Nat.{ℕ, zero, suc}
use native.Mathlib.Nat.{le_refl}
use native.Mathlib.Omega.{arith}
use mathlib.Core.Path.{◌≡◌, refl, sym}
use mathlib.Core.List.Memᴰ
use mathlib.Core.List.{[], ◌∷◌, ◌++◌}
use mathlib.Core.Option.{some}
use lib.ListN.{get_elem?, length, replicate, length-replicate}
use Rattle.terms.specs.Lists.{◌∈◌}
use Rattle.terms.specs.Terms.{Term, item, key, seal}
use Rattle.terms.proofs.Lists.{at_in, at_below}
use Rattle.terms.proofs.Terms.{enter_in}
use Rattle.rules.specs.Templates.{Policy}
use Rattle.rules.specs.Commands.{GENERATE, WRAP, UNWRAP, ENCRYPT, DECRYPT, CORRUPT, DESTROY, OWN_KEY, OWN_DATA, SEAL}
use Rattle.rules.specs.State.{Now, State, dead, live, Origin, own, generated, ◌born◌, fresh, slot, key_of_slot}
use Rattle.rules.specs.State.{new_handle, new_key, most_handles}
use Rattle.rules.specs.Changes.{after, all_of, all_changes, changes, giving, answers, change_now, change_past}
use Rattle.rules.specs.Runs.{Reachable}
use Rattle.rules.proofs.Induction.{Kept, reachable_has}
use Rattle.rules.proofs.Named.{Live, wraps_named, unwraps_named, encrypts_named, decrypts_named, corrupts_named}
use Rattle.rules.proofs.Named.{seals_named}
use Rattle.rules.proofs.Sound.{Sound}
use Rattle.terms.proofs.Lists.{at_end}
use Rattle.rules.proofs.ShapeKept.{parts_in}
use Rattle.rules.proofs.SoundChanges.{MayAnswer, item_not_key, sound_binds, sound_answers, sound_key, sound_item}
use Rattle.rules.proofs.SoundChanges.{sound_gives, sound_owns, sound_corrupts, sound_wraps, sound_bears}

-- nothing is in a list of dead handles but dead
in_replicate : {A : Type 0} {x a : A} (n : ℕ) → x ∈ replicate n a → x ≡ a
in_replicate zero h = absurd (Memᴰ.not-nil h)
in_replicate (suc n) (Memᴰ.head e) = e
in_replicate (suc n) (Memᴰ.tail h) = in_replicate n h

-- nothing stands in an empty list
nowhere {ℓ} : {A : Type 0} {C : Type ℓ} {x : A} (n : ℕ) → get_elem? {A = A} [] n ≡ some x → C
nowhere n e = absurd (Memᴰ.not-nil (at_in [] n e))

-- a fresh token is sound: its lists are empty, and its handles dead
pub sound_fresh : Sound fresh
unfolding fresh
sound_fresh =
    record {
      counted =
          record {
            shape =
                record {
                  once = λ {i} a b. nowhere i a;
                  key_earlier = λ {i} a. nowhere i a;
                  payload_earlier = λ {i} a. nowhere i a;
                };
            keys_counted = none_in;
            counted_keys = λ h. absurd (omega arith);
            items_counted = none_in;
          };
      handled =
          record {
            slots = length-replicate most_handles dead;
            live_key = λ {k} {f} h. absurd (no_live k f (in_replicate most_handles h));
          };
      passed =
          record {
            items_given = none_in;
            seals_given = none_in;
            own_given = none_in;
            given_in = none_in;
            corrupted_given = none_in;
            wrap_sealed = none_in;
          };
      births = record { own_origin = none_in; birth_origin = none_in; one_birth = none_in };
    }
  where
    none_in : {A C : Type 0} {x : A} → x ∈ [] → C
    none_in h = absurd (Memᴰ.not-nil h)

    no_live : (k f : ℕ) → live k f ≡ dead → ⊥
    no_live k f e = let z : ◌≡◌ {A = ℕ} 0 1 = cc in omega arith

module _ {s : State} (i : Sound s) where
  -- the key of a live handle is in the table
  pub live_in : {h : ℕ} → Live s.now h → key (key_of_slot (slot s.now h)) ∈ s.now.table
  unfolding key_of_slot
  live_in l = rw l.is_slot (i.handled.live_key l.in_handles)

  -- a term of the table may be answered
  in_answers : (m : Term) → m ∈ s.now.table → MayAnswer s.now.table s.now.items m
  in_answers (item n) h = i.counted.items_counted h
  in_answers (key k) h = h
  in_answers (seal k m) h = parts_in i.counted.shape h

  -- the payload of a seal of the table is in the table
  payload_in : {m p : Term} {k : ℕ} → m ≡ seal k p → m ∈ s.now.table → p ∈ s.now.table
  payload_in e h = (parts_in i.counted.shape (rw e at h)).1

  -- a new key has not been generated before
  never_born : (g : ℕ) → ¬ ((new_key s.now born g) ∈ s.past.births)
  unfolding new_key
  never_born g h = omega (arith, at_below s.now.origins (length s.now.origins) (i.births.birth_origin h))

-- a new key has the origin that it is counted with
new_origin : (now : Now) (o : Origin) (k : ℕ) → k ≡ new_key now → get_elem? (now.origins ++ o ∷ []) k ≡ some o
unfolding new_key
new_origin now o k e = rw e (at_end now.origins o)

-- every done command keeps a state sound
pub sound_kept : (p : Policy) → Kept p Sound
unfolding after all_of all_changes changes giving answers change_now change_past
sound_kept p s (GENERATE f) held j d i =
    sound_binds (sound_bears (sound_key i generated) (new_key s.now) f (new_origin s.now generated _ refl) (never_born i))
    (new_handle s.now) (live (new_key s.now) f) (enter_in s.now.table (key (new_key s.now)))
sound_kept p s (WRAP a b) held j d i =
    let w = wraps_named d in
    sound_wraps (sound_answers i (seal _ (key _)) (live_in i w.outer, live_in i w.inner)) _ _ (enter_in s.now.table _)
sound_kept p s (UNWRAP h t f) held j d i =
    let u = unwraps_named d in
    sound_binds i (new_handle s.now) (live _ f) (payload_in i u.sealed_key u.the_term.in_table)
sound_kept p s (ENCRYPT h t) held j d i =
    let e = encrypts_named d in
    sound_answers i (seal _ _) (live_in i e.handle, e.the_term.in_table)
sound_kept p s (DECRYPT h t) held j d i =
    let e = decrypts_named d in
    sound_answers i _ (in_answers i _ (payload_in i e.sealed e.the_term.in_table))
sound_kept p s (CORRUPT h) held j d i =
    sound_corrupts (sound_answers i (key _) (live_in i (corrupts_named d))) _ (Memᴰ.head refl)
sound_kept p s (DESTROY h) held j d i = sound_binds i h dead tt
sound_kept p s OWN_KEY held j d i =
    sound_owns (sound_gives (sound_key i own) (key (new_key s.now)) (enter_in s.now.table (key (new_key s.now))))
    (key (new_key s.now)) (Memᴰ.head refl) (λ k (e : key k ≡ key (new_key s.now)). new_origin s.now own k (cc))
sound_kept p s OWN_DATA held j d i =
    sound_owns (sound_answers (sound_item i) (item s.now.items) (le_refl _)) (item s.now.items) (Memᴰ.head refl)
    (λ k e. absurd (item_not_key (sym e)))
sound_kept p s (SEAL k t) held j d i =
    let e = seals_named d in
    sound_answers i (seal _ _) (rw e.is_key_term at e.the_key.in_table, e.the_term.in_table)

-- every reachable state is sound
pub sound : {p : Policy} {s : State} → Reachable p s → Sound s
sound {p} r = reachable_has Sound sound_fresh (sound_kept p) r
