-- A property of states that is kept with the help of one that is kept already. Rests on Induction.
use Prim.Native.Nat.{ℕ}
use mathlib.Core.Bool.{Bool}
use Rattle.rules.specs.Templates.{Policy}
use Rattle.rules.specs.Commands.{Command}
use Rattle.rules.specs.State.{State}
use Rattle.rules.specs.Changes.{after}
use Rattle.rules.specs.Runs.{Judge}
use Rattle.rules.proofs.Done.{Done}
use Rattle.rules.proofs.Induction.{Kept}

-- every done command keeps I, in a state that has J
abbrev pub KeptBeside : Policy → (J I : State → Type 0) → Type 0
KeptBeside p J I = (s : State) (c : Command) (held : ℕ → Bool) → Judge s held → Done p held s.now c → J s → I s → I (after s c)

pub kept_beside : {p : Policy} (J I : State → Type 0) → Kept p J → KeptBeside p J I → Kept p (λ s. J s × I s)
kept_beside J I kept_J kept_I s c held judges d (j, i) = (kept_J s c held judges d j, kept_I s c held judges d j i)
