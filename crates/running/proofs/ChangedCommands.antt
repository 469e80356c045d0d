-- The change of each done command can be made in a token that shows the state, and gives a token that shows the state after the
-- command. One law a command. Rests on ChangedGiven, ChangedMade and ShownHands.
use Prim.Native.Nat.{ℕ}
use mathlib.Core.Path.{◌≡◌, refl, sym, ap, ap₂, subst, ◌∙◌}
use mathlib.Core.Bool.{Bool, true, false}
use mathlib.Core.List.Memᴰ
use mathlib.Core.List.{List}
use Rattle.terms.specs.Lists.{◌∈◌}
use Rattle.terms.specs.Terms.{Term, item, key, number_of}
use Rattle.terms.specs.Following.{own_key}
use Rattle.terms.proofs.Terms.{number_new}
use Rattle.rules.specs.Templates.{Policy}
use Rattle.rules.specs.Commands.{Command, GENERATE, WRAP, UNWRAP, ENCRYPT, DECRYPT, CORRUPT, DESTROY, OWN_KEY, OWN_DATA, SEAL}
use Rattle.rules.specs.State.{State, dead, live, generated, own, is_live, term_at, key_number, payload}
use Rattle.rules.specs.State.{new_handle, new_key}
use Rattle.rules.specs.Changes.{after}
use Rattle.rules.specs.Runs.{Judge}
use Rattle.rules.proofs.Limits.{live_below}
use Rattle.rules.proofs.Done.{Done, room_for}
use Rattle.rules.proofs.Named.{generates, wraps_named, unwraps_named, encrypts_named, decrypts_named, corrupts_named}
use Rattle.rules.proofs.Named.{destroys_named, seals_named}
use Rattle.rules.proofs.NamedHeld.{held_term}
use Rattle.rules.proofs.NewHandle.{new_handle_below}
use Rattle.rules.proofs.ShapeKept.{parts_in}
use Rattle.rules.proofs.Sound.{Sound}
use Rattle.rules.proofs.SoundKept.{sound_kept, live_in}
use Rattle.shapes.specs.declared.Slot.{Slot}
use Rattle.token.specs.declared.Hands.{Hands}
use Rattle.token.specs.declared.Token.{Token}
use Rattle.token.specs.Shows.{Shows, ShowsHands, slot_for, is_own}
use Rattle.running.specs.Applied.{Applied, SlotSet, new_slot}
use Rattle.running.proofs.ChangeFor.{change_for}
use Rattle.running.proofs.MarksKept.{reached_marked}
use Rattle.running.proofs.ShownHands.{hands_set, hands_kept}
use Rattle.running.proofs.ShownTable.{snoc_extends}
use Rattle.running.proofs.ChangedKinds.{changed_hands}
use Rattle.running.proofs.ChangedWorks.{Works, term_room, hand_room}
use Rattle.running.proofs.ChangedGiven.{gift_works, seal_works}
use Rattle.running.proofs.ChangedDone.{after_opened, held_leaks, wrap_leaks, generate_makes}
use Rattle.running.proofs.ChangedDone.{own_key_makes, own_data_makes}
use Rattle.running.proofs.ChangedMade.{not_listed, made_table, made_unmarked, item_made}
use Rattle.running.proofs.ChangedMade.{key_made}

module _ {p : Policy} {s : State} {held : ℕ → Bool} (i : Sound s) (j : Judge s held) {t : Token} (shows : Shows t s) where
  -- WRAP seals a key, which may leak
  wrap_works : (a b : ℕ) → Done p held s.now (WRAP a b) → Works t (after s (WRAP a b)) (change_for s (WRAP a b))
  unfolding change_for after_opened
  wrap_works a b d =
      let w = wraps_named d in
      seal_works i (sound_kept p s (WRAP a b) held j d i) shows _ _ _
      (record { entered = refl; same_origins = refl; same_handles = refl; same_own = refl; given_more = refl })
      (live_in i w.outer) (live_in i w.inner) (room_for d _ (Memᴰ.tail (Memᴰ.head refl))) (wrap_leaks s _ _)

  -- ENCRYPT seals a held term
  encrypt_works : (h n : ℕ) → Done p held s.now (ENCRYPT h n) → Works t (after s (ENCRYPT h n)) (change_for s (ENCRYPT h n))
  unfolding change_for after_opened
  encrypt_works h n d =
      let e = encrypts_named d in
      seal_works i (sound_kept p s (ENCRYPT h n) held j d i) shows _ _ _
      (record { entered = refl; same_origins = refl; same_handles = refl; same_own = refl; given_more = refl })
      (live_in i e.handle) e.the_term.in_table (room_for d _ (Memᴰ.head refl))
      (held_leaks s _ _ i (held_term j e.the_term))

  -- SEAL does, too
  seal_command_works : (k n : ℕ) → Done p held s.now (SEAL k n) → Works t (after s (SEAL k n)) (change_for s (SEAL k n))
  unfolding change_for after_opened
  seal_command_works k n d =
      let e = seals_named d in
      seal_works i (sound_kept p s (SEAL k n) held j d i) shows _ _ _
      (record { entered = refl; same_origins = refl; same_handles = refl; same_own = refl; given_more = refl })
      (subst (λ (m : Term). m ∈ s.now.table) e.is_key_term e.the_key.in_table) e.the_term.in_table
      (room_for d _ (Memᴰ.head refl)) (held_leaks s _ _ i (held_term j e.the_term))

  -- DECRYPT gives the payload of a seal
  decrypt_works : (h n : ℕ) → Done p held s.now (DECRYPT h n) → Works t (after s (DECRYPT h n)) (change_for s (DECRYPT h n))
  unfolding change_for after_opened
  decrypt_works h n d =
      let e = decrypts_named d in
      gift_works i (sound_kept p s (DECRYPT h n) held j d i) shows
      (record { entered = refl; same_origins = refl; same_handles = refl; same_own = refl; given_more = refl })
      (parts_in i.counted.shape (subst (λ (m : Term). m ∈ s.now.table) e.sealed e.the_term.in_table)).1

  -- CORRUPT gives a key
  corrupt_works : (h : ℕ) → Done p held s.now (CORRUPT h) → Works t (after s (CORRUPT h)) (change_for s (CORRUPT h))
  unfolding change_for after_opened
  corrupt_works h d =
      gift_works i (sound_kept p s (CORRUPT h) held j d i) shows
      (record { entered = refl; same_origins = refl; same_handles = refl; same_own = refl; given_more = refl })
      (live_in i (corrupts_named d))

  -- UNWRAP binds a handle number to a key of the table
  unwrap_works : (h n f : ℕ) → Done p held s.now (UNWRAP h n f) →
      Works t (after s (UNWRAP h n f)) (change_for s (UNWRAP h n f))
  unfolding Applied change_for after_opened slot_for is_live payload
  unwrap_works h n f d =
      let u = unwraps_named d in
      let i' = sound_kept p s (UNWRAP h n f) held j d i in
      let inside = new_handle_below s.now i.handled.slots u.handle_free in
      let same_slot : payload (term_at s.now n) ≡ key (key_number (payload (term_at s.now n))) =
      ap payload u.sealed_key in
      record {
        applicable = hand_room (new_handle s.now) shows inside;
        shows_next = λ r made.
            changed_hands i i' shows refl refl (λ k m. refl) made.of_table made.of_links
            (hands_set i i' (record { table_more = λ a x e. e; origins_more = λ a x e. e }) (new_handle s.now)
            (live (key_number (payload (term_at s.now n))) f) inside refl
            (subst (λ (m : Term). SlotSet t.hands (new_handle s.now)
            (record {
              key = record { 0 = key_number (payload (term_at s.now n)) };
              term = record { 0 = number_of s.now.table m };
              flags = f;
            }) true r.hands) same_slot made.of_hands)
            shows.hands_shown);
      }

  -- DESTROY sets one free
  destroy_works : (h : ℕ) → Done p held s.now (DESTROY h) → Works t (after s (DESTROY h)) (change_for s (DESTROY h))
  unfolding Applied change_for after_opened slot_for is_live
  destroy_works h d =
      let i' = sound_kept p s (DESTROY h) held j d i in
      let inside = live_below i (destroys_named d) in
      record {
        applicable = hand_room h shows inside;
        shows_next = λ r made.
            changed_hands i i' shows refl refl (λ k m. refl) made.of_table made.of_links
            (hands_set i i' (record { table_more = λ a x e. e; origins_more = λ a x e. e }) h dead inside refl made.of_hands
            shows.hands_shown);
      }

  -- OWN_DATA makes an item
  own_data_works : Done p held s.now OWN_DATA → Works t (after s OWN_DATA) (change_for s OWN_DATA)
  unfolding Applied change_for after_opened
  own_data_works d =
      let i' = sound_kept p s OWN_DATA held j d i in
      let makes = own_data_makes i in
      let few = room_for d (item s.now.items) (Memᴰ.tail (Memᴰ.tail (Memᴰ.head refl))) (not_listed i makes) in
      record {
        applicable = term_room i shows few;
        shows_next = λ r made.
            item_made i i' shows s.now.items makes few refl made.of_table made.of_links
            (subst (λ (x : Hands). ShowsHands x (after s OWN_DATA).now) (sym made.of_hands)
            (hands_kept i i'
            (record { table_more = snoc_extends s.now.table _ (made_table i makes); origins_more = λ a x e. e }) refl
            shows.hands_shown));
      }

  -- OWN_KEY makes a key that is held
  own_key_works : Done p held s.now OWN_KEY → Works t (after s OWN_KEY) (change_for s OWN_KEY)
  unfolding Applied change_for after_opened is_own
  own_key_works d =
      let i' = sound_kept p s OWN_KEY held j d i in
      let makes = own_key_makes i in
      let few = room_for d _ (Memᴰ.tail (Memᴰ.tail (Memᴰ.head refl))) (not_listed i makes) in
      record {
        applicable = term_room i shows few;
        shows_next = λ r made.
            key_made i i' shows own true makes few refl refl
            (sym (reached_marked (after s OWN_KEY) (own_key (Memᴰ.head refl)))) made.of_table made.of_links
            (subst (λ (x : Hands). ShowsHands x (after s OWN_KEY).now) (sym made.of_hands)
            (hands_kept i i'
            (record {
              table_more = snoc_extends s.now.table _ (made_table i makes);
              origins_more = snoc_extends s.now.origins own refl;
            }) refl shows.hands_shown));
      }

  -- GENERATE makes a key that is not, and binds a handle number to it
  generate_works : (f : ℕ) → Done p held s.now (GENERATE f) → Works t (after s (GENERATE f)) (change_for s (GENERATE f))
  unfolding Applied change_for after_opened is_own slot_for is_live new_key
  generate_works f d =
      let i' = sound_kept p s (GENERATE f) held j d i in
      let makes = generate_makes f i in
      let few = room_for d (key (new_key s.now)) (Memᴰ.tail (Memᴰ.head refl)) (not_listed i makes) in
      let inside = new_handle_below s.now i.handled.slots (generates d).handle_free in
      let number : t.table.terms ≡ number_of (after s (GENERATE f)).now.table (key (new_key s.now)) =
      shows.terms_shown ∙ sym (number_new s.now.table (key (new_key s.now)) (not_listed i makes))
      ∙ ap (λ (l : List Term). number_of l (key (new_key s.now))) (sym (made_table i makes)) in
      let slots : new_slot t.table f ≡ slot_for (after s (GENERATE f)).now.table (live (new_key s.now) f) =
      ap₂ (λ (k n : ℕ). record { key = record { 0 = k }; term = record { 0 = n }; flags = f }) shows.keys_shown number in
      record {
        applicable = record { for_term = term_room i shows few; for_handle = hand_room (new_handle s.now) shows inside };
        shows_next = λ r made.
            key_made i i' shows generated false makes few refl refl
            (sym (made_unmarked i makes (λ x h. h) (λ x h. h) (new_key s.now) refl)) made.of_table made.of_links
            (hands_set i i'
            (record {
              table_more = snoc_extends s.now.table _ (made_table i makes);
              origins_more = snoc_extends s.now.origins generated refl;
            }) (new_handle s.now) (live (new_key s.now) f) inside refl
            (subst (λ (x : Slot). SlotSet t.hands (new_handle s.now) x true r.hands) slots made.of_hands)
            shows.hands_shown);
      }

-- the change of every done command works
pub works : (p : Policy) (s : State) (c : Command) (held : ℕ → Bool) → Sound s → Judge s held → Done p held s.now c →
    (t : Token) → Shows t s → Works t (after s c) (change_for s c)
works p s (GENERATE f) held i j d t shows = generate_works i j shows f d
works p s (WRAP a b) held i j d t shows = wrap_works i j shows a b d
works p s (UNWRAP h n f) held i j d t shows = unwrap_works i j shows h n f d
works p s (ENCRYPT h n) held i j d t shows = encrypt_works i j shows h n d
works p s (DECRYPT h n) held i j d t shows = decrypt_works i j shows h n d
works p s (CORRUPT h) held i j d t shows = corrupt_works i j shows h d
works p s (DESTROY h) held i j d t shows = destroy_works i j shows h d
works p s OWN_KEY held i j d t shows = own_key_works i j shows d
works p s OWN_DATA held i j d t shows = own_data_works i j shows d
works p s (SEAL k n) held i j d t shows = seal_command_works i j shows k n d
