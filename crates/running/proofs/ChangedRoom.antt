-- The change of a done command can be made in a token that shows the state: there is room for what it appends, the numbers lie
-- inside, and a leak can be followed. Rests on ChangedCommands.
use Prim.Native.Nat.{ℕ}
use mathlib.Core.Bool.{Bool}
use Rattle.rules.specs.Templates.{Policy}
use Rattle.rules.specs.Commands.{Command}
use Rattle.rules.specs.State.{State}
use Rattle.rules.specs.Runs.{Judge}
use Rattle.rules.proofs.Done.{Done}
use Rattle.rules.proofs.Sound.{Sound}
use Rattle.token.specs.declared.Token.{Token}
use Rattle.token.specs.Shows.{Shows}
use Rattle.running.specs.Applied.{Applicable}
use Rattle.running.proofs.ChangeFor.{change_for}
use Rattle.running.proofs.ChangedCommands.{works}

-- the change can be made
pub changed_room : (p : Policy) (s : State) (c : Command) (held : ℕ → Bool) → Sound s → Judge s held → Done p held s.now c →
    (t : Token) → Shows t s → Applicable t (change_for s c)
changed_room p s c held i j d t shows = (works p s c held i j d t shows).applicable
