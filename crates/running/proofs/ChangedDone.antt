-- What a done command brings to its change: room for a new term, a live handle's number that is a handle's, whether its seal
-- leaks a key, and what it makes. Rests on the rules crate's Done and Named.
use Prim.Native.Nat.{ℕ}
use native.Mathlib.Omega.{arith}
use mathlib.Core.Path.{◌≡◌, refl, sym, subst}
use mathlib.Core.Bool.{Bool, true, false, not, ◌&&◌, true≢false}
use borrow.Author.Tests.{not-true, not-false}
use Rattle.terms.specs.Lists.{◌∈◌}
use Rattle.terms.specs.Terms.{Term, item, key, seal}
use Rattle.terms.specs.WorkingOut.{Held}
use Rattle.rules.specs.Commands.{GENERATE, OWN_KEY, OWN_DATA}
use Rattle.rules.specs.State.{State, new_key}
use Rattle.rules.specs.Changes.{answers, changes, giving, all_changes, change_now, change_past, all_of, after}
use Rattle.rules.proofs.Judging.{known_reached}
use Rattle.rules.proofs.Named.{both}
use Rattle.rules.proofs.Sound.{Sound}
use Rattle.running.proofs.ChangeFor.{held_in}
use Rattle.running.proofs.MarksKept.{Reaches, mark, marked_reached, reached_marked}
use Rattle.running.proofs.ChangedGiven.{SealLeaks}
use Rattle.running.proofs.ChangedMade.{Makes, adds_none, adds_first}

-- one name for all that the state after a command computes with
unfoldable pub after_opened : Unit {0}
unfolding answers changes giving all_changes change_now change_past all_of after
after_opened = tt

-- a seal of a held term leaks no key
pub held_leaks : (s : State) (k : ℕ) (x : Term) → Sound s → Held s.past.own s.past.given x → SealLeaks s k x false
held_leaks s k x i h =
    record {
      leaks_key = λ e. absurd (true≢false (sym e));
      outer_known = λ e. absurd (true≢false (sym e));
      no_leak = λ e j q r. known_reached i (subst (λ (m : Term). Held s.past.own s.past.given m) q h);
    }

-- a wrapped key leaks where the outer key is held and it is not
pub wrap_leaks : (s : State) (k j : ℕ) → SealLeaks s k (key j) (held_in s (key k) && not (held_in s (key j)))
unfolding held_in
wrap_leaks s k j =
    record {
      leaks_key = λ e. (j, refl, not-true (mark s j) (both (mark s k) (not (mark s j)) e).1);
      outer_known = λ e. marked_reached s k (both (mark s k) (not (mark s j)) e).0;
      no_leak = λ e n (q : key j ≡ key n) r.
          let same : j ≡ n = cc in
          let marked : mark s j ≡ true = not-false (mark s j) (second (mark s k) (not (mark s j)) e (reached_marked s r)) in
          subst (Reaches s) same (marked_reached s j marked);
    }
  where
    second : (a b : Bool) → (a && b) ≡ false → a ≡ true → b ≡ false
    second true b e f = e
    second false b e f = absurd (true≢false (sym f))

-- neither a key nor an item is a seal
no_seal_key : (n k : ℕ) (x : Term) → ¬ (key n ≡ seal k x)
no_seal_key n k x e = let z : ◌≡◌ {A = ℕ} 0 1 = cc in omega arith

no_seal_item : (n k : ℕ) (x : Term) → ¬ (item n ≡ seal k x)
no_seal_item n k x e = let z : ◌≡◌ {A = ℕ} 0 1 = cc in omega arith

-- the key made next is not in the table
key_new : {s : State} → Sound s → ¬ (key (new_key s.now) ∈ s.now.table)
unfolding new_key
key_new i h = omega (arith, i.counted.keys_counted h)

-- GENERATE makes a key
pub generate_makes : {s : State} (f : ℕ) → Sound s → Makes s (after s (GENERATE f)) (key (new_key s.now))
unfolding after_opened
generate_makes f i =
    record { entered = refl; own_adds = adds_none; given_adds = adds_none; is_new = key_new i; no_seal = no_seal_key _ }

-- OWN_KEY makes one that is the caller's own
pub own_key_makes : {s : State} → Sound s → Makes s (after s OWN_KEY) (key (new_key s.now))
unfolding after_opened
own_key_makes i =
    record { entered = refl; own_adds = adds_first; given_adds = adds_first; is_new = key_new i; no_seal = no_seal_key _ }

-- OWN_DATA makes an item
pub own_data_makes : {s : State} → Sound s → Makes s (after s OWN_DATA) (item s.now.items)
unfolding after_opened
own_data_makes i =
    record {
      entered = refl;
      own_adds = adds_first;
      given_adds = adds_first;
      is_new = λ h. omega (arith, i.counted.items_counted h);
      no_seal = no_seal_item _;
    }
