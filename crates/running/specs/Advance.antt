-- Commands in a row, run on a token where it stands. Assumes nothing.
use Rattle.std.specs.Prelude.{ℕ, ◌+◌, ◌*◌, ◌/◌, ◌%◌, ◌≤◌, ◌≡◌, List, length, set, Result}
use Rattle.std.proofs.Math.Option.{none}
use Rattle.rules.specs.Templates.{Policy}
use Rattle.rules.specs.Commands.{Command}
use Rattle.rules.specs.State.{State}
use Rattle.rules.specs.Runs.{Answer, Run}
use Rattle.sheets.specs.Faults.{count, first_fault}
use Rattle.sheets.specs.Reports.{records_bytes}
use Rattle.sheets.specs.Calls.{over}
use Rattle.sheets.specs.Reading.{read_commands}
use Rattle.shapes.specs.declared.Command.{Command as Stored}
use Rattle.deciding.specs.declared.Refusal.{Refusal}
use Rattle.deciding.specs.Decisions.{Decision, decided}
use Rattle.token.specs.declared.Token.{Token}
use Rattle.token.specs.Shows.{Shows}
use Rattle.running.specs.Said.{answer_of, value_of}
use Rattle.running.specs.Views.{view_of, Findable}
use Rattle.running.specs.Applied.{Applicable, Applied}
use Rattle.running.specs.Direct.{ComesFrom, Reached}

-- record i: the answer, and the value in two bytes
abbrev pub record_put : (records : List ℕ) (i answer value : ℕ) → List ℕ
record_put records i answer value =
    set (set (set records (3 * i) answer) (3 * i + 1) (value / 256)) (3 * i + 2) (value % 256)

-- what is decided of a command on a token
abbrev pub decision_on : (policy : ℕ) → Stored → Token → Decision
decision_on policy c t = decided policy c (view_of t.table t.hands t.links.codes c)

-- a token on which this decision can be come to and made
pub record CanStep (d : Decision) (t : Token) : Type 0 where
  pub findable : Findable t.links.heads t.links.chain t.links.codes
  pub applicable : Applicable t d.change

-- a command is stepped: what was decided is said, and its change is made
pub record Stepped (d : Decision) (before after : Token) (said : Result ℕ Refusal) : Type 0 where
  pub answers : answer_of said ≡ d.answer
  pub values : value_of said ≡ d.value
  pub changes : Applied before d.change after

-- a good sheet's commands under a policy of document 01, on a token that comes from a fresh one, with room for their records
pub record RunAsks (token : Token) (policy : ℕ) (s : List ℕ) (n : ℕ) (records : List ℕ) : Type 0 where
  pub reached : Reached token policy
  pub low : policy ≤ 2
  pub good : first_fault s ≡ none
  pub counted : n ≡ count s
  pub room : 3 * n ≤ length records

-- what comes of the commands: a run of the rules, a token that shows the state at its end, and the records of what was said
pub record RanBy (p : Policy) (state : State) (cs : List Command) (before after : List ℕ) (r : Token) : Type 0 where
  pub said : List Answer
  pub end : State
  pub run : Run p state cs said end
  pub shows_end : Shows r end
  pub written : after ≡ over (records_bytes said) before

abbrev pub Ran : (token : Token) (policy : ℕ) (s : List ℕ) (n : ℕ) (before after : List ℕ) (r : Token) → Type 0
Ran token policy s n before after r =
    (p : Policy) (state : State) → ComesFrom token policy p state → RanBy p state (read_commands s n) before after r
