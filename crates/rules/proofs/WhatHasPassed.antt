-- One run worked out by hand, with every command of document 01 done in it: what each answers, what the token is at the end, and
-- what has passed. A key's number, its term's and its handle's are three numbers wherever one could be taken for another, and no
-- two lists of the past are alike. (OWN KEY is refused in a full table alone; that a refusal leaves all as it was is said of every
-- command by `refused_leaves`.) Rests on the definitions alone.
use mathlib.Core.Path.{◌≡◌, refl}
use mathlib.Core.List.{List, [], ◌∷◌, map}
use lib.ListN.{replicate}
use Rattle.terms.specs.Terms.{item, key, seal}
use Rattle.terms.specs.Compromise.{◌under◌}
use Rattle.rules.specs.Templates.{plain}
use Rattle.rules.specs.Commands.{Command, GENERATE, WRAP, UNWRAP, ENCRYPT, DECRYPT, CORRUPT, DESTROY, OWN_KEY, OWN_DATA, SEAL}
use Rattle.rules.specs.State.{State, dead, live, own, generated, ◌born◌, fresh}
use Rattle.rules.specs.Computing.{said_by, end_of}
use Rattle.rules.proofs.Opened.{rules_opened}

-- behind each, what it comes to
unfoldable pub the_commands : List Command
the_commands =
    OWN_DATA  -- item 0 is term 0
    ∷ OWN_KEY  -- key 0 is term 1
    ∷ GENERATE 95  -- key 1 is term 2, under handle 0: all flags but N
    ∷ GENERATE 18  -- key 2 is term 3, under handle 1: U, X
    ∷ GENERATE 17  -- key 3 is term 4, under handle 2: W, X
    ∷ WRAP 0 1  -- key 2 under key 1 is term 5
    ∷ WRAP 1 0  -- 6: handle 1 has no W
    ∷ WRAP 2 0  -- key 1 under key 3 is term 6
    ∷ WRAP 0 1  -- done again, and term 5 again
    ∷ DESTROY 1  -- handle 1 is dead
    ∷ UNWRAP 0 5 12  -- handle 1 for key 2 again: E, D
    ∷ ENCRYPT 1 0  -- item 0 under key 2 is term 7
    ∷ ENCRYPT 1 1  -- key 0 under key 2 is term 8
    ∷ DECRYPT 1 7  -- term 0 again
    ∷ CORRUPT 9  -- 3: handle 9 is not live
    ∷ CORRUPT 2  -- key 3: term 4 again
    ∷ SEAL 1 4  -- key 3 under key 0 is term 9
    ∷ CORRUPT 2  -- done again, and term 4 again
    ∷ OWN_DATA  -- item 1 is term 10
    ∷ DESTROY 0  -- handle 0 is dead
    ∷ []

-- the answers, and the values
pub they_answer :
    map (λ a. a.answer) (said_by plain fresh the_commands)
    ≡ 0 ∷ 0 ∷ 0 ∷ 0 ∷ 0 ∷ 0 ∷ 6 ∷ 0 ∷ 0 ∷ 0 ∷ 0 ∷ 0 ∷ 0 ∷ 0 ∷ 3 ∷ 0 ∷ 0 ∷ 0 ∷ 0 ∷ 0 ∷ []
unfolding rules_opened the_commands
they_answer = refl

pub they_are_worth :
    map (λ a. a.value) (said_by plain fresh the_commands)
    ≡ 0 ∷ 1 ∷ 0 ∷ 1 ∷ 2 ∷ 5 ∷ 0 ∷ 6 ∷ 5 ∷ 1 ∷ 1 ∷ 7 ∷ 8 ∷ 0 ∷ 0 ∷ 4 ∷ 9 ∷ 4 ∷ 10 ∷ 0 ∷ []
unfolding rules_opened the_commands
they_are_worth = refl

-- the end: the token, and what has passed, the last first. Given is every term answered, as often as it was answered; GENERATE,
-- UNWRAP and DESTROY give none. A done WRAP counts each time, and no other command counts as one
pub record EndsSo (s : State) : Type 0 where
  pub the_table :
      s.now.table
      ≡ item 0
      ∷ key 0
      ∷ key 1
      ∷ key 2
      ∷ key 3
      ∷ seal 1 (key 2)
      ∷ seal 3 (key 1)
      ∷ seal 2 (item 0)
      ∷ seal 2 (key 0)
      ∷ seal 0 (key 3)
      ∷ item 1
      ∷ []
  pub the_handles : s.now.handles ≡ dead ∷ live 2 12 ∷ live 3 17 ∷ replicate 253 dead
  pub the_origins : s.now.origins ≡ own ∷ generated ∷ generated ∷ generated ∷ []
  pub the_items : s.now.items ≡ 2
  pub the_own : s.past.own ≡ item 1 ∷ key 0 ∷ item 0 ∷ []
  pub the_given :
      s.past.given
      ≡ item 1
      ∷ key 3
      ∷ seal 0 (key 3)
      ∷ key 3
      ∷ item 0
      ∷ seal 2 (key 0)
      ∷ seal 2 (item 0)
      ∷ seal 1 (key 2)
      ∷ seal 3 (key 1)
      ∷ seal 1 (key 2)
      ∷ key 0
      ∷ item 0
      ∷ []
  pub the_corrupted : s.past.corrupted ≡ 3 ∷ 3 ∷ []
  pub the_wraps : s.past.wraps ≡ (2 under 1) ∷ (1 under 3) ∷ (2 under 1) ∷ []
  pub the_births : s.past.births ≡ (3 born 17) ∷ (2 born 18) ∷ (1 born 95) ∷ []

pub they_end_so : EndsSo (end_of plain fresh the_commands)
unfolding rules_opened the_commands
they_end_so =
    record {
      the_table = refl;
      the_handles = refl;
      the_origins = refl;
      the_items = refl;
      the_own = refl;
      the_given = refl;
      the_corrupted = refl;
      the_wraps = refl;
      the_births = refl;
    }
