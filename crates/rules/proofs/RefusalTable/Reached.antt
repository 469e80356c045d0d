-- The small scene is no invention: a fresh token comes there by commands under the plain policy, and what the scene takes as not
-- held is not held there. Rests on the definitions alone.
use mathlib.Core.Path.{◌≡◌, refl}
use mathlib.Core.List.{List, [], ◌∷◌, map}
use Rattle.rules.specs.Templates.{plain}
use Rattle.rules.specs.Commands.{Command, GENERATE, WRAP, UNWRAP, ENCRYPT, DESTROY, OWN_KEY, OWN_DATA, SEAL}
use Rattle.rules.specs.State.{State, fresh}
use Rattle.rules.specs.Computing.{judge, end_of}
use Rattle.rules.proofs.Opened.{rules_opened}
use Rattle.rules.proofs.RefusalTable.Scenes.{held_in, small}

-- keys 0, 1 and 2 and the eight terms, then a handle for each flag byte; number 5 is set free last
unfoldable pub small_commands : List Command
small_commands =
    OWN_DATA
    ∷ GENERATE 127
    ∷ GENERATE 16
    ∷ OWN_KEY
    ∷ WRAP 0 1
    ∷ WRAP 0 0
    ∷ ENCRYPT 0 0
    ∷ SEAL 3 3
    ∷ DESTROY 1
    ∷ UNWRAP 0 4 1
    ∷ UNWRAP 0 5 126
    ∷ UNWRAP 0 5 2
    ∷ UNWRAP 0 5 125
    ∷ UNWRAP 0 5 0
    ∷ UNWRAP 0 5 4
    ∷ UNWRAP 0 5 123
    ∷ UNWRAP 0 5 8
    ∷ UNWRAP 0 5 119
    ∷ UNWRAP 0 4 16
    ∷ UNWRAP 0 4 111
    ∷ UNWRAP 0 5 48
    ∷ UNWRAP 0 4 65
    ∷ UNWRAP 0 5 63
    ∷ DESTROY 5
    ∷ []

-- the state after them
unfoldable pub small_end : State
unfolding rules_opened small_commands
small_end = end_of plain fresh small_commands

-- the token is then as in the small scene
pub small_reached : small_end.now ≡ small.now
unfolding small_end small
small_reached = refl

-- and of its eight terms the same are held
pub small_judged :
    map (judge small_end) (0 ∷ 1 ∷ 2 ∷ 3 ∷ 4 ∷ 5 ∷ 6 ∷ 7 ∷ []) ≡ map (held_in small) (0 ∷ 1 ∷ 2 ∷ 3 ∷ 4 ∷ 5 ∷ 6 ∷ 7 ∷ [])
unfolding small_end held_in small
small_judged = refl
