-- Document 01: a command's answer, and a run of commands from a fresh token under one policy. "A refusal has value 0, and
-- every later command behaves as if the refused one had not been there." Assumes nothing.
use Rattle.std.specs.Prelude.{ℕ, zero, suc, ◌≡◌, ◌↔◌, Bool, true, List, [], ◌∷◌}
use Rattle.std.proofs.Math.Option.{some}
use Rattle.std.proofs.Math.ListN.{get_elem?}
use Rattle.terms.specs.Terms.{Term, Table, number_of}
use Rattle.terms.specs.WorkingOut.{Held}
use Rattle.rules.specs.Templates.{Policy}
use Rattle.rules.specs.Commands.{Command}
use Rattle.rules.specs.State.{State, fresh}
use Rattle.rules.specs.Changes.{Value, handle_number, term_number, answers, after}
use Rattle.rules.specs.Refusals.{refusals, first}

-- what a command answers: a number of the table "What is answered", and a value
pub record Answer : Type 0 where
  pub answer : ℕ
  pub value : ℕ

pub record Outcome : Type 0 where
  pub said : Answer
  pub next : State

-- a value as a number: a handle's own, or the term's in the table that it now stands in
unfoldable pub number_in : Table → Value → ℕ
number_in table (handle_number h) = h
number_in table (term_number m) = number_of table m

unfoldable pub outcome : State → Command → (refusal : ℕ) → Outcome
outcome s c zero =
    record { said = record { answer = 0; value = number_in (after s c).now.table (answers s.now c) }; next = after s c }
outcome s c (suc n) = record { said = record { answer = suc n; value = 0 }; next = s }

unfoldable pub step : Policy → (held : ℕ → Bool) → State → Command → Outcome
step p held s c = outcome s c (first (refusals p held s.now c))

-- term number t is held: it is the number of a term, and the caller can work that term out
pub record HeldNumber (s : State) (t : ℕ) : Type 0 where
  pub the_term : Term
  pub is_there : get_elem? s.now.table t ≡ some the_term
  pub is_held : Held s.past.own s.past.given the_term

-- a test that says of each term number whether it is held
abbrev pub Judge : State → (ℕ → Bool) → Type 0
Judge s held = (t : ℕ) → (held t ≡ true) ↔ HeldNumber s t

-- one command: its answer and the state after it, under a judge
pub record Step (p : Policy) (s : State) (c : Command) (said : Answer) (next : State) : Type 0 where
  pub held : ℕ → Bool
  pub judges : Judge s held
  pub is_step : step p held s c ≡ record { said = said; next = next }

-- a run of commands from a state: the answers, and the state at the end
pub data Run (p : Policy) : State → List Command → List Answer → State → Type 0 where
  ends : {s : State} → Run p s [] [] s
  then : {s next end : State} {c : Command} {cs : List Command} {a : Answer} {said : List Answer}
      → Step p s c a next
      → Run p next cs said end
      → Run p s (c ∷ cs) (a ∷ said) end

-- a state that comes from a fresh token by commands under one policy
pub record Reachable (p : Policy) (s : State) : Type 0 where
  pub commands : List Command
  pub said : List Answer
  pub run : Run p fresh commands said s
