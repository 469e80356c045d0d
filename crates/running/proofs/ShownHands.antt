-- What slots and live words show is kept when the table grows, and follows when a handle number is bound or set free. Rests on
-- ShownGrown.
use Prim.Native.Nat.{ℕ, zero, suc, ◌<◌}
use native.Mathlib.Omega.{arith}
use native.Mathlib.Decide.{ℕ_discrete}
use mathlib.Core.Path.{◌≡◌, sym, ap, ◌∙◌}
use mathlib.Core.List.Memᴰ
use mathlib.Core.List.{List, [], ◌∷◌}
use mathlib.Core.Logic.{by_cases}
use lib.ListN.{length, get_or, set, length-set}
use lib.Seq.{get_or-set_same, get_or-set_other}
use Rattle.terms.specs.Lists.{◌∈◌}
use Rattle.rules.specs.State.{State, dead, live, slot, is_live, most_handles}
use Rattle.rules.specs.State.{Slot as Handle}
use Rattle.rules.proofs.Sound.{Sound}
use Rattle.shapes.specs.declared.Slot.{Slot}
use Rattle.token.specs.declared.Hands.{Hands}
use Rattle.token.specs.Shows.{ShowsHands, blank_slot, slot_for}
use Rattle.running.specs.Applied.{SlotSet}
use Rattle.running.proofs.ShownGrown.{Grows, slot_kept}

-- a handle that reads as live is among the handles
in_handles : (slots : List Handle) (h k f : ℕ) → get_or slots h dead ≡ live k f → live k f ∈ slots
in_handles [] h k f e = absurd (let z : ◌≡◌ {A = ℕ} 0 1 = cc in omega arith)
in_handles (x ∷ slots) zero k f e = Memᴰ.head (sym e)
in_handles (x ∷ slots) (suc h) k f e = Memᴰ.tail (in_handles slots h k f e)

module _ {s s' : State} (i : Sound s) (i' : Sound s') (grows : Grows s.now s'.now) where
  old_slot : (h : ℕ) → slot_for s.now.table (slot s.now h) ≡ slot_for s'.now.table (slot s.now h)
  unfolding slot
  old_slot h = slot_kept i i' grows (slot s.now h) (λ k f e. in_handles s.now.handles h k f e)

  -- the handles stay, and so does what is shown of them
  pub hands_kept : {hands : Hands} → s'.now.handles ≡ s.now.handles → ShowsHands hands s.now → ShowsHands hands s'.now
  unfolding slot
  hands_kept same shown =
      record {
        slots_length = shown.slots_length;
        slots_shown = λ h l. shown.slots_shown h l ∙ old_slot h ∙ ap (slot_for s'.now.table) (sym (again h));
        words = shown.words;
        live_shown = λ h l. shown.live_shown h l ∙ ap is_live (sym (again h));
      }
    where
      again : (h : ℕ) → slot s'.now h ≡ slot s.now h
      again h = ap (λ (l : List Handle). get_or l h dead) same

  -- a handle number is bound or set free, in the state and in the token
  pub hands_set : {hands result : Hands} (h : ℕ) (x : Handle) → h < most_handles → s'.now.handles ≡ set s.now.handles h x →
      SlotSet hands h (slot_for s'.now.table x) (is_live x) result → ShowsHands hands s.now → ShowsHands result s'.now
  unfolding slot
  hands_set {hands} {result} h x inside same made shown =
      record {
        slots_length =
            ap length made.slots_set ∙ length-set hands.slots h (slot_for s'.now.table x) ∙ shown.slots_length;
        slots_shown = λ j l. ap (λ (y : List Slot). get_or y j blank_slot) made.slots_set ∙ slots j l;
        words = made.live_set.words_again;
        live_shown = λ j l.
            by_cases (ℕ_discrete j h) (λ (q : j ≡ h). rw q (made.live_set.bit_set ∙ ap is_live (sym here)))
            (λ d. made.live_set.others j l d ∙ shown.live_shown j l ∙ ap is_live (sym (other j d)));
      }
    where
      here : slot s'.now h ≡ x
      here = ap (λ (l : List Handle). get_or l h dead) same ∙ get_or-set_same s.now.handles h x dead (omega (arith, i.handled.slots))

      other : (j : ℕ) → ¬ (j ≡ h) → slot s'.now j ≡ slot s.now j
      other j d = ap (λ (l : List Handle). get_or l j dead) same ∙ get_or-set_other s.now.handles h j x dead d

      slots : (j : ℕ) → j < most_handles →
          get_or (set hands.slots h (slot_for s'.now.table x)) j blank_slot ≡ slot_for s'.now.table (slot s'.now j)
      slots j l =
          by_cases (ℕ_discrete j h)
          (λ (q : j ≡ h).
          rw q
          (get_or-set_same hands.slots h (slot_for s'.now.table x) blank_slot (omega (arith, shown.slots_length))
          ∙ ap (slot_for s'.now.table) (sym here)))
          (λ d.
          get_or-set_other hands.slots h j (slot_for s'.now.table x) blank_slot d ∙ shown.slots_shown j l ∙ old_slot j
          ∙ ap (slot_for s'.now.table) (sym (other j d)))
