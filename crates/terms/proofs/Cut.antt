-- "A message already held may be given again and nothing changes", and its general form: what can be worked out from held
-- terms is held. Rests on proofs/Derivation.antt.
use mathlib.Core.List.Memᴰ
use mathlib.Core.List.{List, ◌∷◌}
use mathlib.Core.Logic.{◌↔◌}
use Rattle.terms.specs.Lists.{◌∈◌}
use Rattle.terms.specs.Terms.{Term}
use Rattle.terms.specs.WorkingOut.{Held}
use Rattle.terms.proofs.Lists.{◌⊆◌}
use Rattle.terms.proofs.Derivation.{Derives, from_own, from_given, sealing, opening, held_derives}
use Rattle.terms.proofs.Derivation.{held_own, held_given, held_seal, held_open}

-- every term of the list is held
abbrev pub AllHeld : (own given l : List Term) → Type 0
AllHeld own given l = (x : Term) → x ∈ l → Held own given x

module _ {own given own' given' : List Term} where
  derives_cut : AllHeld own given own' → AllHeld own given given' → {x : Term} → Derives own' given' x → Held own given x
  derives_cut o g (from_own h) = o _ h
  derives_cut o g (from_given h) = g _ h
  derives_cut o g (sealing a b) = held_seal (derives_cut o g a) (derives_cut o g b)
  derives_cut o g (opening a b) = held_open (derives_cut o g a) (derives_cut o g b)

  -- what can be worked out from held terms is held
  pub cut_all : AllHeld own given own' → AllHeld own given given' → {x : Term} → Held own' given' x → Held own given x
  cut_all o g h = derives_cut o g (held_derives h)

  -- who owns no less and is given no less holds no less
  pub held_more : own' ⊆ own → given' ⊆ given → {x : Term} → Held own' given' x → Held own given x
  held_more o g h = cut_all (λ x m. held_own (o x m)) (λ x m. held_given (g x m)) h

module _ {own given : List Term} {m : Term} where
  -- what can be worked out when a held message is given again could be worked out before
  pub cut : {x : Term} → Held own given m → Held own (m ∷ given) x → Held own given x
  cut hm h = cut_all (λ x o. held_own o) again h
    where
      again : AllHeld own given (m ∷ given)
      again x (Memᴰ.head q) = rw q hm
      again x (Memᴰ.tail g) = held_given g

  -- a message already held may be given again and nothing changes
  pub given_again : {x : Term} → Held own given m → Held own (m ∷ given) x ↔ Held own given x
  given_again hm = (λ h. cut hm h, λ h. held_more (λ x o. o) (λ x g. Memᴰ.tail g) h)
