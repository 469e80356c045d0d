-- Of the table of a reachable state: its data items and seals are held, a seal's two parts have lower numbers, and no term
-- stands under two numbers. Rests on SoundKept.
use Prim.Native.Nat.{ℕ}
use mathlib.Core.Path.{◌≡◌}
use mathlib.Core.Option.{some}
use lib.ListN.{get_elem?}
use Rattle.terms.specs.Lists.{◌∈◌}
use Rattle.terms.specs.Terms.{Term, item, key, seal}
use Rattle.terms.specs.WorkingOut.{Held}
use Rattle.terms.proofs.Derivation.{held_given}
use Rattle.rules.specs.Templates.{Policy}
use Rattle.rules.specs.State.{State}
use Rattle.rules.specs.Runs.{Reachable}
use Rattle.rules.proofs.Sound.{Earlier}
use Rattle.rules.proofs.SoundKept.{sound}

module _ {p : Policy} {s : State} (r : Reachable p s) where
  -- every data item of the table is held
  pub item_held : {n : ℕ} → item n ∈ s.now.table → Held s.past.own s.past.given (item n)
  item_held h = held_given ((sound r).passed.items_given h)

  -- every seal of the table is held
  pub seal_held : {k : ℕ} {m : Term} → seal k m ∈ s.now.table → Held s.past.own s.past.given (seal k m)
  seal_held h = held_given ((sound r).passed.seals_given h)

  -- "a seal's two parts have lower numbers than the seal": its key has one
  pub key_lower : (i : ℕ) {k : ℕ} {m : Term} → get_elem? s.now.table i ≡ some (seal k m) → Earlier s.now.table i (key k)
  key_lower i h = (sound r).counted.shape.key_earlier h

  -- the payload has a lower number, too
  pub payload_lower : (i : ℕ) {k : ℕ} {m : Term} → get_elem? s.now.table i ≡ some (seal k m) → Earlier s.now.table i m
  payload_lower i h = (sound r).counted.shape.payload_earlier h

  -- "an equal term is never entered twice": no term stands under two numbers
  pub number_once : (i j : ℕ) {m : Term} → get_elem? s.now.table i ≡ some m → get_elem? s.now.table j ≡ some m → i ≡ j
  number_once i j a b = (sound r).counted.shape.once a b
