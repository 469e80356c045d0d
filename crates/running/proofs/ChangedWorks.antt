-- What is to be shown of a change: it can be made in the token, and what it makes of the token shows the next state. And the room
-- that a change asks for, from what the token shows. Rests on ShownCounts.
use Prim.Native.Nat.{ℕ, ◌<◌}
use native.Mathlib.Omega.{arith}
use lib.ListN.{length}
use Rattle.rules.specs.State.{State, most_terms, most_handles}
use Rattle.rules.proofs.Sound.{Sound}
use Rattle.token.specs.declared.Token.{Token}
use Rattle.deciding.specs.declared.Change.{Change}
use Rattle.token.specs.Shows.{Shows}
use Rattle.running.specs.Applied.{Applied, Applicable, Room, HandRoom}
use Rattle.running.proofs.ShownCounts.{few_keys}

pub record Works (t : Token) (next : State) (change : Change) : Type 0 where
  pub applicable : Applicable t change
  pub shows_next : (r : Token) → Applied t change r → Shows r next

-- there is room for a term
pub term_room : {t : Token} {s : State} → Sound s → Shows t s → length s.now.table < most_terms → Room t
term_room i shows few =
    record {
      few_terms = omega (arith, shows.terms_shown);
      few_keys = omega (arith, shows.keys_shown, few_keys i);
      entries_length = shows.entries_length;
    }

-- a handle's number is inside
pub hand_room : {t : Token} {s : State} (h : ℕ) → Shows t s → h < most_handles → HandRoom t h
hand_room h shows inside = record { inside = inside; slots_length = shows.hands_shown.slots_length }
