-- The deciding functions come to what the rules say: on what a command sees of a token that shows a sound state, the answer is the
-- rules' first refusal, and where there is none the value and the change are the command's in that state. Rests on Seen, SeenSeals,
-- SeenFree and on one law for each command.
use Prim.Native.Nat.{ℕ, ◌<◌}
use mathlib.Core.Path.{◌≡◌, refl, sym, ap, ◌∙◌}
use mathlib.Core.Bool.{true}
use mathlib.Core.List.Memᴰ
use lib.ListN.{length}
use borrow.Author.Tests.{ltb-true}
use Rattle.terms.specs.Lists.{◌∈◌}
use Rattle.terms.specs.Terms.{key, seal}
use Rattle.rules.specs.Templates.{Policy}
use Rattle.rules.specs.Commands.{Command, GENERATE, WRAP, UNWRAP, ENCRYPT, DECRYPT, CORRUPT, DESTROY, OWN_KEY, OWN_DATA, SEAL}
use Rattle.rules.specs.Commands.{handle, body}
use Rattle.rules.specs.State.{State, slot, is_live, key_of_slot, is_term, term_at, key_number, most_handles}
use Rattle.rules.proofs.Sound.{Sound}
use Rattle.sheets.specs.Sheets.{Holdable, part_limit, part_number, policy_number}
use Rattle.sheets.specs.Reading.{read_policy}
use Rattle.token.specs.declared.Token.{Token}
use Rattle.token.specs.Shows.{seal_code, Shows}
use Rattle.shapes.specs.Entries.{key_of}
use Rattle.deciding.specs.Decisions.{decided}
use Rattle.running.specs.Views.{view_of, names_of, aim_of, equal_in, slot_at, entry_at}
use Rattle.shapes.specs.Commands.{stored_command}
use Rattle.running.proofs.SeenParts.{slot_key, slot_term}
use Rattle.running.proofs.Seen.{slot_seen, handle_seen, entry_seen, lookup_seen, live_entry, payload_entry, live_key_in}
use Rattle.running.proofs.Seen.{term_in, term_number, key_number_seen}
use Rattle.running.proofs.SeenSeals.{equal_for, equal_seen}
use Rattle.running.proofs.SeenFree.{free_seen}
use Rattle.running.proofs.DecidedBy.{Decides, policy_read}
use Rattle.running.proofs.DecidedHandles.{decides_corrupt, decides_destroy}
use Rattle.running.proofs.DecidedNew.{decides_generate, decides_own_key, decides_own_data}
use Rattle.running.proofs.DecidedSeals.{decides_wrap, decides_encrypt, decides_seal}
use Rattle.running.proofs.DecidedOpenings.{decides_unwrap, decides_decrypt}

-- a handle that a command names has one of the 256 numbers
handle_fits : (c : Command) (h : ℕ) → Holdable c → handle h ∈ body c → h < most_handles
unfolding part_number part_limit
handle_fits c h fits m = fits (handle h) m

module _ {t : Token} {s : State} (sound : Sound s) (shows : Shows t s) where
  -- the equal of the seal that WRAP, ENCRYPT and SEAL would make
  wrap_equal : (a b : ℕ) → a < most_handles → b < most_handles → is_live (slot s.now b) ≡ true →
      equal_in t.links.codes (seal_code (slot_at t.hands.slots a).key.0 (slot_at t.hands.slots b).term.0) ≡
      equal_for s.now.table (seal (key_of_slot (slot s.now a)) (key (key_of_slot (slot s.now b))))
  wrap_equal a b fa fb live =
      rw (
        slot_seen shows a fa,
        slot_key s.now.table (slot s.now a),
        slot_seen shows b fb,
        slot_term s.now.table (slot s.now b) live,
      ) (equal_seen sound shows _ (live_key_in sound b live))

  term_equal : (k n : ℕ) → is_term s.now n ≡ true →
      equal_in t.links.codes (seal_code k n) ≡ equal_for s.now.table (seal k (term_at s.now n))
  term_equal k n e =
      ap (λ (i : ℕ). equal_in t.links.codes (seal_code k i)) (sym (term_number sound n e)) ∙
      equal_seen sound shows k (term_in sound n e)

  encrypt_equal : (h n : ℕ) → h < most_handles → is_term s.now n ≡ true →
      equal_in t.links.codes (seal_code (slot_at t.hands.slots h).key.0 n) ≡
      equal_for s.now.table (seal (key_of_slot (slot s.now h)) (term_at s.now n))
  encrypt_equal h n fits e = rw (slot_seen shows h fits, slot_key s.now.table (slot s.now h)) (term_equal _ n e)

  seal_equal : (k n : ℕ) → is_term s.now k ≡ true → is_term s.now n ≡ true →
      equal_in t.links.codes (seal_code (key_of (entry_at t.table.entries k).term).0 n) ≡
      equal_for s.now.table (seal (key_number (term_at s.now k)) (term_at s.now n))
  unfolding is_term
  seal_equal k n ek en =
      rw (entry_seen shows k (ltb-true k (length s.now.table) ek), key_number_seen s k) (term_equal _ n en)

  -- every command
  pub decides : (policy : ℕ) {p : Policy} → read_policy policy ≡ p → (c : Command) → Holdable c →
      Decides p s c (decided policy (stored_command c) (view_of t.table t.hands t.links.codes (stored_command c)))
  unfolding decided view_of names_of stored_command aim_of body
  decides policy reads (GENERATE f) fits = rw (free_seen sound shows, shows.terms_shown) (decides_generate policy f reads sound)
  decides policy {p} reads (WRAP a b) fits =
      let fa = handle_fits (WRAP a b) a fits (Memᴰ.head refl) in
      let fb = handle_fits (WRAP a b) b fits (Memᴰ.tail (Memᴰ.head refl)) in
      rw (handle_seen shows a fa, handle_seen shows b fb, shows.terms_shown)
      (decides_wrap p s a b _ _ _ (live_entry shows sound a fa) (live_entry shows sound b fb) (wrap_equal a b fa fb))
  decides policy reads (UNWRAP h n f) fits =
      let fh = handle_fits (UNWRAP h n f) h fits (Memᴰ.head refl) in
      rw (handle_seen shows h fh, lookup_seen shows n, free_seen sound shows)
      (decides_unwrap policy s h n f _ reads (payload_entry shows sound _ n))
  decides policy reads (ENCRYPT h n) fits =
      let fh = handle_fits (ENCRYPT h n) h fits (Memᴰ.head refl) in
      rw (handle_seen shows h fh, lookup_seen shows n, shows.terms_shown)
      (decides_encrypt policy h n _ reads sound (encrypt_equal h n fh))
  decides policy {p} reads (DECRYPT h n) fits =
      let fh = handle_fits (DECRYPT h n) h fits (Memᴰ.head refl) in
      rw (handle_seen shows h fh, lookup_seen shows n) (decides_decrypt p h n _ sound (payload_entry shows sound _ n))
  decides policy {p} reads (CORRUPT h) fits =
      let fh = handle_fits (CORRUPT h) h fits (Memᴰ.head refl) in
      rw (handle_seen shows h fh) (decides_corrupt p h _ sound (live_entry shows sound h fh))
  decides policy {p} reads (DESTROY h) fits =
      let fh = handle_fits (DESTROY h) h fits (Memᴰ.head refl) in
      rw (handle_seen shows h fh) (decides_destroy p s h)
  decides policy {p} reads OWN_KEY fits = rw shows.terms_shown (decides_own_key p sound)
  decides policy {p} reads OWN_DATA fits = rw shows.terms_shown (decides_own_data p sound)
  decides policy {p} reads (SEAL k n) fits =
      rw (lookup_seen shows k, lookup_seen shows n, shows.terms_shown) (decides_seal p k n _ sound (seal_equal k n))

  -- the law of deciding, for a policy by its number
  pub decided_right : (p : Policy) (c : Command) → Holdable c →
      Decides p s c (decided (policy_number p) (stored_command c) (view_of t.table t.hands t.links.codes (stored_command c)))
  decided_right p c fits = decides (policy_number p) (policy_read p) c fits
