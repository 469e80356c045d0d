-- What it means that a decision is the rules' decision, and how that is shown of a command: its own list of refusals has the same
-- first as document 01's ten, since a test that cannot apply to the command is passed over. Rests on the definitions alone.
use Prim.Native.Nat.{ℕ, zero, suc}
use native.Mathlib.Omega.{arith}
use mathlib.Core.Path.{◌≡◌, refl, sym, ◌∙◌}
use mathlib.Core.Bool.{Bool, true, false, true≢false}
use mathlib.Core.List.{List, ◌∷◌}
use Rattle.terms.specs.Lists.{some_of}
use Rattle.rules.specs.Flags.{holds_128}
use Rattle.rules.specs.Templates.{Policy, plain, stp, stp+}
use Rattle.rules.specs.Commands.{Command, body}
use Rattle.rules.specs.State.{State}
use Rattle.rules.specs.Changes.{answers, changes, giving, all_changes, change_now, all_of, after}
use Rattle.rules.specs.Refusals.{Refusal, ◌if◌, refusals, first, bad_flags, not_live, no_term, not_held, asks_for, not_granted}
use Rattle.rules.specs.Refusals.{needs_handle, needs, missing, wrong_kind, encrypts_key, enters_new}
use Rattle.rules.specs.Runs.{number_in}
use Rattle.rules.specs.Computing.{judge}
use Rattle.sheets.specs.Sheets.{policy_number}
use Rattle.sheets.specs.Reading.{read_policy}
use Rattle.deciding.specs.declared.Change.{Change}
use Rattle.deciding.specs.declared.Change.TheVariants.{Nothing}
use Rattle.deciding.specs.Decisions.{Decision}
use Rattle.deciding.specs.Decisions.{decision}
use Rattle.running.proofs.ChangeFor.{value_for, change_for}

-- the first refusal that applies to a command in a state, 0 for none
abbrev pub refusal_for : Policy → State → Command → ℕ
refusal_for p s c = first (refusals p (judge s) s.now c)

-- a decision answers what the rules answer; where the command is done, its value and change are the command's in this state, and
-- where it is refused it has value 0 and changes nothing
pub record Decides (p : Policy) (s : State) (c : Command) (d : Decision) : Type 0 where
  pub answers : d.answer ≡ refusal_for p s c
  pub done : refusal_for p s c ≡ 0 → (d.value ≡ value_for s c) × (d.change ≡ change_for s c)
  pub refused : ¬ (refusal_for p s c ≡ 0) → (d.value ≡ 0) × (d.change ≡ Nothing)

-- a decision by the first refusal is the rules', where that is the rules' first, and value and change are right where there is none
pub decides_by : {p : Policy} {s : State} {c : Command} (n : ℕ) {value : ℕ} {change : Change} → n ≡ refusal_for p s c →
    (refusal_for p s c ≡ 0 → (value ≡ value_for s c) × (change ≡ change_for s c)) → Decides p s c (decision n value change)
decides_by zero e right = record { answers = e; done = right; refused = λ no. absurd (no (sym e)) }
decides_by (suc n) e right =
    record { answers = e; done = λ z. absurd (omega (arith, e ∙ z)); refused = λ no. (refl, refl) }

-- one name for the tests of document 01's table of refusals, to compute with
unfoldable pub asking_opened : Unit {0}
unfolding refusals body some_of bad_flags holds_128 not_live no_term not_held asks_for not_granted needs_handle needs missing
    wrong_kind encrypts_key enters_new all_changes changes giving answers
asking_opened = tt

-- one name for what a done command answers, to compute with
unfoldable pub value_opened : Unit {0}
unfolding value_for number_in after all_of all_changes changes giving answers change_now
value_opened = tt

-- both lists ask the same next, and go on alike where that does not apply
pub both_ask : (n : ℕ) {a b : Bool} (l r : List Refusal) → a ≡ b → (b ≡ false → first l ≡ first r) →
    first ((n if a) ∷ l) ≡ first ((n if b) ∷ r)
unfolding first
both_ask n {a = a} {b = true} l r e on = rw e
both_ask n {a = a} {b = false} l r e on = rw e (on refl)

-- a test of the second list alone does not apply
pub passed_over : (n : ℕ) {b : Bool} (l r : List Refusal) → b ≡ false → first l ≡ first r → first l ≡ first ((n if b) ∷ r)
unfolding first
passed_over n {b = true} l r e on = absurd (true≢false e)
passed_over n {b = false} l r e on = on

-- a policy is read from its number
pub policy_read : (p : Policy) → read_policy (policy_number p) ≡ p
unfolding read_policy policy_number
policy_read plain = refl
policy_read stp = refl
policy_read stp+ = refl
