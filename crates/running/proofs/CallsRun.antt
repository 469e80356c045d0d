-- Direct calls in a row are a run of the rules: each answer is the rules' answer, 1 where the call is none, and the token at the end
-- shows the state at the end. Rests on Going.
use Prim.Native.Nat.{ℕ}
use mathlib.Core.Path.{◌≡◌, refl}
use mathlib.Core.Bool.{Bool, true, false, cond}
use mathlib.Core.List.{List, [], ◌∷◌}
use Rattle.rules.specs.Templates.{Policy}
use Rattle.rules.specs.Commands.{Command}
use Rattle.rules.specs.State.{State}
use Rattle.rules.specs.Runs.{Answer, Run, ends, then, Reachable}
use Rattle.sheets.specs.Sheets.{policy_number}
use Rattle.sheets.specs.Reading.{read_command}
use Rattle.token.specs.declared.Token.{Token}
use Rattle.running.specs.declared.Called.{Called}
use Rattle.token.specs.Shows.{Shows}
use Rattle.running.specs.Said.{answer_of, value_of}
use Rattle.running.specs.Direct.{not_a_call, CallAnswer, Answered}
use Rattle.running.proofs.Going.{reachable_next}

-- a call: a command number and the bytes of a body
pub record Direct : Type 0 where
  pub number : ℕ
  pub body : List ℕ

abbrev pub said_of : Called → Answer
said_of r = record { answer = answer_of r.said; value = value_of r.said }

-- calls in a row under one policy, each as the contract of `call` says: the answers, and the token at the end
pub data Calls (policy : ℕ) : Token → List Direct → List Answer → Token → Type 0 where
  no_more : {t : Token} → Calls policy t [] [] t
  then_call : {t end : Token} (r : Called) {d : Direct} {ds : List Direct} {said : List Answer}
      → Answered t policy d.number d.body r
      → Calls policy r.token ds said end
      → Calls policy t (d ∷ ds) (said_of r ∷ said) end

-- is this direct call none?
abbrev pub is_none : (policy : ℕ) → Direct → Bool
is_none policy d = not_a_call policy d.number d.body

-- the commands of those calls that are calls
unfoldable pub commands_of : (policy : ℕ) → List Direct → List Command
commands_of policy [] = []
commands_of policy (d ∷ ds) =
    cond (is_none policy d) (commands_of policy ds) (read_command d.number d.body ∷ commands_of policy ds)

-- answers of commands, with 1 and value 0 for each call that is none
unfoldable pub one_more : Bool → List Answer → (List Answer → List Answer) → List Answer
one_more true answers rest = record { answer = 1; value = 0 } ∷ rest answers
one_more false [] rest = []
one_more false (a ∷ answers) rest = a ∷ rest answers

unfoldable pub with_ones : (policy : ℕ) → List Direct → List Answer → List Answer
with_ones policy [] answers = answers
with_ones policy (d ∷ ds) answers = one_more (is_none policy d) answers (with_ones policy ds)

pub record CallsRun (p : Policy) (policy : ℕ) (s : State) (ds : List Direct) (said : List Answer) (end : Token) : Type 0 where
  pub answers : List Answer
  pub state : State
  pub run : Run p s (commands_of policy ds) answers state
  pub all_said : said ≡ with_ones policy ds answers
  pub shows : Shows end state

-- the first call of a row, and the rest
one_call : {p : Policy} {policy : ℕ} {s : State} {t end : Token} (r : Called) (d : Direct) {ds : List Direct} {said : List Answer}
    → (none : Bool)
    → is_none policy d ≡ none
    → CallAnswer none t p s d.number d.body r
    → Reachable p s
    → Shows t s
    → ((s' : State) → Reachable p s' → Shows r.token s' → CallsRun p policy s' ds said end)
    → CallsRun p policy s (d ∷ ds) (said_of r ∷ said) end
unfolding commands_of with_ones one_more
one_call {p} {policy} {s} r d true e refused reach shown rest =
    let later = rest s reach (rw refused.same_token shown) in
    record {
      answers = later.answers;
      state = later.state;
      run = rw e later.run;
      all_said = rw (e, refused.answers_1, refused.no_value, later.all_said);
      shows = later.shows;
    }
one_call {p} {policy} {s} r d false e stepped reach shown rest =
    let later = rest stepped.next (reachable_next reach stepped.step) stepped.shows_next in
    record {
      answers = said_of r ∷ later.answers;
      state = later.state;
      run = rw e (then stepped.step later.run);
      all_said = rw (e, later.all_said);
      shows = later.shows;
    }

-- direct calls in a row from a token that shows a reachable state
pub calls_run : (p : Policy) {policy : ℕ} {s : State} {t end : Token} {ds : List Direct} {said : List Answer}
    → policy_number p ≡ policy
    → Reachable p s
    → Shows t s
    → Calls policy t ds said end
    → CallsRun p policy s ds said end
unfolding commands_of with_ones
calls_run p same reach shown no_more =
    record { answers = []; state = _; run = ends; all_said = refl; shows = shown }
calls_run p {policy} {s} same reach shown (then_call r {d = d} answered calls) =
    one_call r d (is_none policy d) refl
    (answered p s (record { reachable = reach; shown = shown; this_policy = λ low. same }))
    reach shown
    (λ s' reach' shown'. calls_run p same reach' shown' calls)
