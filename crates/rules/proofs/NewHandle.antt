-- The number that a new handle takes: it is not live, every lower one is, and there is one below 256 exactly where not all 256
-- are live. Rests on the definitions alone.
use Prim.Native.Nat.{ℕ, zero, suc, ◌≤◌, ◌<◌}
use native.Mathlib.Nat.{not-suc-le-zero}
use native.Mathlib.Omega.{arith}
use mathlib.Core.Path.{◌≡◌, refl}
use mathlib.Core.Logic.{◌↔◌}
use mathlib.Core.Bool.{true, false, false≢true}
use mathlib.Core.List.{List, [], ◌∷◌}
use lib.ListN.{length, get_or}
use borrow.Author.Tests.{leb-true, leb-false, le-leb}
use Rattle.rules.specs.State.{Slot, dead, live, Now, most_handles, slot, is_live, lowest_dead, count_live}
use Rattle.rules.specs.State.{new_handle, all_live}

-- no more handles are live than there are
pub count_bounded : (slots : List Slot) → count_live slots ≤ length slots
unfolding count_live
count_bounded [] = omega arith
count_bounded (dead ∷ slots) = omega (arith, count_bounded slots)
count_bounded (live k f ∷ slots) = omega (arith, count_bounded slots)

-- where not all are live, the lowest that is not is one of them
lowest_below : (slots : List Slot) → count_live slots < length slots → lowest_dead slots < length slots
unfolding count_live lowest_dead
lowest_below [] h = h
lowest_below (dead ∷ slots) h = omega arith
lowest_below (live k f ∷ slots) h = omega (arith, lowest_below slots (omega arith))

-- the lowest that is not live is not live
lowest_is_dead : (slots : List Slot) → get_or slots (lowest_dead slots) dead ≡ dead
unfolding lowest_dead
lowest_is_dead [] = refl
lowest_is_dead (dead ∷ slots) = refl
lowest_is_dead (live k f ∷ slots) = lowest_is_dead slots

-- and every lower one is
lower_are_live : (slots : List Slot) (h : ℕ) → h < lowest_dead slots → is_live (get_or slots h dead) ≡ true
unfolding lowest_dead is_live
lower_are_live [] h l = absurd (not-suc-le-zero l)
lower_are_live (dead ∷ slots) h l = absurd (not-suc-le-zero l)
lower_are_live (live k f ∷ slots) zero l = refl
lower_are_live (live k f ∷ slots) (suc h) l = lower_are_live slots h (omega arith)

-- as many are live as there are: each is
count_each : (slots : List Slot) → length slots ≤ count_live slots → (h : ℕ) → h < length slots →
    is_live (get_or slots h dead) ≡ true
unfolding count_live is_live
count_each [] c h l = absurd (not-suc-le-zero l)
count_each (dead ∷ slots) c h l = absurd (omega (arith, count_bounded slots))
count_each (live k f ∷ slots) c zero l = refl
count_each (live k f ∷ slots) c (suc h) l = count_each slots (omega arith) h (omega arith)

-- each is live: as many are as there are
each_counts : (slots : List Slot) → ((h : ℕ) → h < length slots → is_live (get_or slots h dead) ≡ true) →
    length slots ≤ count_live slots
unfolding count_live is_live
each_counts [] each = omega arith
each_counts (dead ∷ slots) each = absurd (false≢true (each 0 (omega arith)))
each_counts (live k f ∷ slots) each = omega (arith, each_counts slots (λ h l. each (suc h) (omega arith)))

-- the number that a new handle takes is not live
pub new_handle_dead : (now : Now) → slot now (new_handle now) ≡ dead
unfolding slot new_handle
new_handle_dead now = lowest_is_dead now.handles

-- "A new handle takes the lowest number not live": every lower one is live
pub below_new_handle : (now : Now) (h : ℕ) → h < new_handle now → is_live (slot now h) ≡ true
unfolding slot new_handle
below_new_handle now h l = lower_are_live now.handles h l

module _ (now : Now) (slots : length now.handles ≡ most_handles) where
  -- where not all are live, it is a handle's number
  pub new_handle_below : all_live now ≡ false → new_handle now < most_handles
  unfolding new_handle all_live
  new_handle_below e =
      omega (arith, lowest_below now.handles (omega (arith, leb-false most_handles (count_live now.handles) e)))

  -- the count of the live handles says that all 256 are live exactly where each is
  pub all_live_each : (all_live now ≡ true) ↔ ((h : ℕ) → h < most_handles → is_live (slot now h) ≡ true)
  unfolding slot all_live
  all_live_each = (
    λ e h l. count_each now.handles (omega (arith, leb-true most_handles (count_live now.handles) e)) h (omega arith),
    λ each. le-leb most_handles (count_live now.handles)
        (omega (arith, each_counts now.handles (λ h l. each h (omega arith)))),
  )

  -- 256 handles are live: each is
  pub count_all_live : count_live now.handles ≡ most_handles → (h : ℕ) → h < most_handles → is_live (slot now h) ≡ true
  unfolding slot
  count_all_live e h l = count_each now.handles (omega arith) h (omega arith)

  -- "all are live" is asked by counting
  pub all_live_count : (all_live now ≡ true) ↔ (count_live now.handles ≡ most_handles)
  unfolding all_live
  all_live_count = (
    λ e. omega (arith, leb-true most_handles (count_live now.handles) e, count_bounded now.handles),
    λ e. le-leb most_handles (count_live now.handles) (omega arith),
  )
