-- The states at which the table of refusals is computed, and names for the handles and terms in them. In the small state stand a
-- handle for each flag alone and one for each flag's lack, and a term of each kind (Reached shows the commands that lead there); the
-- others are that state with handles or data items added, up to the most there can be and up to one less.
-- Rests on the definitions alone.
use Prim.Native.Nat.{ℕ, zero, suc}
use mathlib.Core.Bool.{Bool, not}
use mathlib.Core.List.{List, [], ◌∷◌, ◌++◌}
use lib.ListN.{replicate}
use Rattle.terms.specs.Terms.{Table, item, key, seal}
use Rattle.terms.specs.Lists.{is_in}
use Rattle.rules.specs.Commands.{Command}
use Rattle.rules.specs.State.{Slot, dead, live, generated, own, Now, State, fresh}
use Rattle.rules.specs.Templates.{plain}
use Rattle.rules.specs.Runs.{step}

-- what the token is, and the numbers of the terms that the caller does not hold
pub record Scene : Type 0 where
  pub now : Now
  pub unheld : List ℕ

-- the state of a scene; nothing has passed, for no answer looks there but through what is held
unfoldable pub state_in : Scene → State
state_in at = record { now = at.now; past = record { own = []; given = []; corrupted = []; wraps = []; births = [] } }

unfoldable pub held_in : Scene → ℕ → Bool
held_in at t = not (is_in t at.unheld)

-- the scene after a command under the plain policy
unfoldable pub ◌then◌ : Scene → Command → Scene
◌then◌ at c = record { now = (step plain (held_in at) (state_in at) c).next.now; unheld = at.unheld }

infixl 40 ◌then◌
-- the handles by number: `only_F` carries the flag F alone, `but_F` every flag but F. Four stand for key 1, the others for key 0
unfoldable pub low_handles : (fifth : Slot) → List Slot
low_handles fifth =
    live 0 127  -- 0, all_flags
    ∷ live 1 1  -- 1, only_W
    ∷ live 0 126  -- 2, but_W
    ∷ live 0 2  -- 3, only_U
    ∷ live 0 125  -- 4, but_U
    ∷ fifth  -- 5, a_dead
    ∷ live 0 4  -- 6, only_E
    ∷ live 0 123  -- 7, but_E
    ∷ live 0 8  -- 8, only_D
    ∷ live 0 119  -- 9, but_D
    ∷ live 1 16  -- 10, only_X
    ∷ live 1 111  -- 11, but_X
    ∷ live 0 48  -- 12, X_and_N
    ∷ live 1 65  -- 13, W_and_T
    ∷ live 0 63  -- 14, but_T
    ∷ []

abbrev pub all_flags : ℕ
all_flags = 0

abbrev pub only_W : ℕ
only_W = 1

abbrev pub but_W : ℕ
but_W = 2

abbrev pub only_U : ℕ
only_U = 3

abbrev pub but_U : ℕ
but_U = 4

abbrev pub a_dead : ℕ
a_dead = 5

abbrev pub only_E : ℕ
only_E = 6

abbrev pub but_E : ℕ
but_E = 7

abbrev pub only_D : ℕ
only_D = 8

abbrev pub but_D : ℕ
but_D = 9

abbrev pub only_X : ℕ
only_X = 10

abbrev pub but_X : ℕ
but_X = 11

abbrev pub X_and_N : ℕ
X_and_N = 12

abbrev pub W_and_T : ℕ
W_and_T = 13

abbrev pub but_T : ℕ
but_T = 14

-- the terms by number: keys 0 and 1 are the token's and not held, key 2 is the caller's own
unfoldable pub low_terms : Table
low_terms =
    item 0  -- 0, an_item
    ∷ key 0  -- 1, key_0
    ∷ key 1  -- 2, key_1
    ∷ key 2  -- 3, own_key
    ∷ seal 0 (key 1)  -- 4, key_1_under_0
    ∷ seal 0 (key 0)  -- 5, key_0_under_0
    ∷ seal 0 (item 0)  -- 6, item_under_0
    ∷ seal 2 (key 2)  -- 7, own_under_own
    ∷ []

abbrev pub an_item : ℕ
an_item = 0

abbrev pub key_0 : ℕ
key_0 = 1

abbrev pub key_1 : ℕ
key_1 = 2

abbrev pub own_key : ℕ
own_key = 3

abbrev pub key_1_under_0 : ℕ
key_1_under_0 = 4

abbrev pub item_under_0 : ℕ
item_under_0 = 6

abbrev pub own_under_own : ℕ
own_under_own = 7

-- the first number past the end: in the small scene, and where there are 1,024 terms
abbrev pub no_term : ℕ
no_term = 8

abbrev pub no_term_1024 : ℕ
no_term_1024 = 1024

-- data items, from a number on
unfoldable pub items_from : (number count : ℕ) → Table
items_from number zero = []
items_from number (suc count) = item number ∷ items_from (suc number) count

-- what stands at handle 5, at handles 15 to 254 and at handle 255, and how many data items besides the terms above
unfoldable pub scene : (fifth most last : Slot) (more : ℕ) → Scene
unfolding low_handles low_terms items_from
scene fifth most last more =
    record {
      now =
          record {
            table = low_terms ++ items_from 1 more;
            handles = low_handles fifth ++ replicate 240 most ++ last ∷ [];
            origins = generated ∷ generated ∷ own ∷ [];
            items = suc more;
          };
      unheld = key_0 ∷ key_1 ∷ [];
    }

-- 14 live handles and 8 terms; 255 and 256 live handles; 1,023 and 1,024 terms; both 256 and 1,024
unfoldable pub small : Scene
unfolding scene
small = scene dead dead dead 0

unfoldable pub one_handle_left : Scene
unfolding scene
one_handle_left = scene (live 0 127) (live 0 127) dead 0

unfoldable pub all_handles : Scene
unfolding scene
all_handles = scene (live 0 127) (live 0 127) (live 0 127) 0

unfoldable pub one_term_left : Scene
unfolding scene
one_term_left = scene dead dead dead 1015

unfoldable pub all_terms : Scene
unfolding scene
all_terms = scene dead dead dead 1016

unfoldable pub all_of_both : Scene
unfolding scene
all_of_both = scene (live 0 127) (live 0 127) (live 0 127) 1016

-- the small one, with every term held; and a token that has done nothing
unfoldable pub all_held : Scene
unfolding small
all_held = record { now = small.now; unheld = [] }

unfoldable pub nothing_done : Scene
unfolding fresh
nothing_done = record { now = fresh.now; unheld = [] }
