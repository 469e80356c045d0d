-- Document 01: the direct call. "1: at a direct call: unknown command number, policy above 2, or a body not of that command's
-- length." "A direct call's token must come from a fresh one by earlier calls, all under the policy of this call (where that is
-- above 2, under any one)." Assumes nothing.
use Rattle.std.specs.Prelude.{ℕ, ◌≤◌, ◌≡◌, Bool, true, false, List}
use Rattle.rules.specs.Templates.{Policy}
use Rattle.rules.specs.Commands.{Command}
use Rattle.rules.specs.State.{State}
use Rattle.rules.specs.Runs.{Step, Reachable}
use Rattle.sheets.specs.Sheets.{policy_number}
use Rattle.sheets.specs.Reading.{read_command}
unfoldable pub use Rattle.shapes.specs.Commands.{no_command, not_a_call}
use Rattle.token.specs.declared.Token.{Token}
use Rattle.running.specs.declared.Called.{Called}
use Rattle.running.specs.Said.{answer_of, value_of}
use Rattle.token.specs.Shows.{Shows}

-- a token's state: reached under one policy, which is the policy of this call where that is at most 2
pub record ComesFrom (token : Token) (policy : ℕ) (p : Policy) (s : State) : Type 0 where
  pub reachable : Reachable p s
  pub shown : Shows token s
  pub this_policy : policy ≤ 2 → policy_number p ≡ policy

pub record Reached (token : Token) (policy : ℕ) : Type 0 where
  pub under : Policy
  pub state : State
  pub comes : ComesFrom token policy under state

-- what is given back where a command is stepped: the rules' answer and value, and a token that shows the rules' next state
pub record SteppedBy (p : Policy) (s : State) (c : Command) (r : Called) : Type 0 where
  pub next : State
  pub step : Step p s c (record { answer = answer_of r.said; value = value_of r.said }) next
  pub shows_next : Shows r.token next

-- what is given back, where the call is none, and where it is one
pub record Refused1 (token : Token) (r : Called) : Type 0 where
  pub answers_1 : answer_of r.said ≡ 1
  pub no_value : value_of r.said ≡ 0
  pub same_token : r.token ≡ token

abbrev pub CallAnswer : (not_a_call : Bool) → Token → Policy → State → (number : ℕ) → (body : List ℕ) → Called → Type 0
CallAnswer true token p s number body r = Refused1 token r
CallAnswer false token p s number body r = SteppedBy p s (read_command number body) r

-- the whole promise: of every state that the token comes from
abbrev pub Answered : Token → (policy number : ℕ) → (body : List ℕ) → Called → Type 0
Answered token policy number body r =
    (p : Policy) (s : State) → ComesFrom token policy p s → CallAnswer (not_a_call policy number body) token p s number body r
