-- The change of a done command, made in a token that shows the state, gives a token that shows the state after the command.
-- Rests on ChangedCommands.
use Prim.Native.Nat.{ℕ}
use mathlib.Core.Bool.{Bool}
use Rattle.rules.specs.Templates.{Policy}
use Rattle.rules.specs.Commands.{Command}
use Rattle.rules.specs.State.{State}
use Rattle.rules.specs.Changes.{after}
use Rattle.rules.specs.Runs.{Judge}
use Rattle.rules.proofs.Done.{Done}
use Rattle.rules.proofs.Sound.{Sound}
use Rattle.token.specs.declared.Token.{Token}
use Rattle.token.specs.Shows.{Shows}
use Rattle.running.specs.Applied.{Applied}
use Rattle.running.proofs.ChangeFor.{change_for}
use Rattle.running.proofs.ChangedCommands.{works}

-- what the change makes of a token that shows the state shows the state after the command
pub changed : (p : Policy) (s : State) (c : Command) (held : ℕ → Bool) → Sound s → Judge s held → Done p held s.now c →
    (t r : Token) → Shows t s → Applied t (change_for s c) r → Shows r (after s c)
changed p s c held i j d t r shows applied = (works p s c held i j d t shows).shows_next r applied
