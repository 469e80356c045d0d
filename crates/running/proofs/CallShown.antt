-- The direct call put together: a call that is none answers 1 and gives the token back, and any other is the step of the command that
-- it states. Rests on StepShown.
use Prim.Native.Nat.{ℕ, ◌≤◌, ◌<◌}
use native.Mathlib.Omega.{arith}
use mathlib.Core.Path.{◌≡◌, refl, sym, ap, subst}
use mathlib.Core.Bool.{Bool, true, false, false≢true}
use mathlib.Core.List.{List}
use borrow.Author.Tests.{ltb-false, eqb-true, not-false}
use lib.ListN.{length, get_or}
use Rattle.std.specs.Prelude.{Option, Some, None, Result, Err, is_some}
use Rattle.terms.proofs.Lists.{in_at, at_get_d}
use Rattle.rules.specs.Commands.{Command}
use Rattle.rules.proofs.Named.{neither}
use Rattle.sheets.specs.Bytes.{Bytes}
use Rattle.sheets.specs.Sheets.{Holdable}
use Rattle.sheets.specs.Faults.{known_number, body_length}
use Rattle.sheets.specs.Reading.{read_command}
use Rattle.sheets.proofs.Bodies.{stated}
use Rattle.shapes.specs.declared.Command.{Command as Stored}
use Rattle.shapes.specs.declared.Command.TheVariants.{OwnKey}
use Rattle.shapes.specs.Commands.{stored_command, parsed_if, called}
use Rattle.deciding.specs.declared.Refusal.{Refusal}
use Rattle.deciding.specs.declared.Refusal.TheVariants.{NotACall}
use Rattle.token.specs.declared.Token.{Token}
use Rattle.running.specs.Direct.{no_command, not_a_call, Reached, CallAnswer, Answered}
use Rattle.running.specs.Advance.{decision_on, CanStep, Stepped}
use Rattle.running.proofs.StepShown.{findable, step_applicable, step_stepped}

-- a list whose every place holds a number below 256 is of bytes
pub bytes_of : (s : List ℕ) → ((i : ℕ) → get_or s i 0 < 256) → Bytes s
bytes_of s below x h =
    let r = in_at h in
    let e : get_or s r.0 0 ≡ x = at_get_d s r.0 0 r.1 in
    omega (arith, below r.0)

-- the answer where the call is none
pub none_answered : (token : Token) (policy number : ℕ) (body : List ℕ) → not_a_call policy number body ≡ true
    → Answered token policy number body (record { token = token; said = Err NotACall })
none_answered token policy number body e p s comes =
    subst (λ (b : Bool). CallAnswer b token p s number body (record { token = token; said = Err NotACall })) (sym e)
    (record { answers_1 = refl; no_value = refl; same_token = refl })

-- what makes a call
record IsCall (policy n : ℕ) (b : List ℕ) : Type 0 where
  pub low : policy ≤ 2
  pub known : known_number n ≡ true
  pub long : length b ≡ body_length n

is_call : (policy n : ℕ) (b : List ℕ) → not_a_call policy n b ≡ false → IsCall policy n b
unfolding not_a_call no_command
is_call policy n b e =
    let (high, no_such) = neither _ _ e in
    let (unknown, unlike) = neither _ _ no_such in
    record { low = ltb-false _ _ high; known = not-false _ unknown; long = eqb-true _ _ (not-false _ unlike) }

-- the command where there is one
abbrev or_stored : Option Stored → Stored
or_stored (Some command) = command
or_stored None = OwnKey

-- what `call_of` answers tells whether it is a call, and of which command
none_called : (is_none : Bool) (c : Command) → parsed_if is_none c ≡ None → is_none ≡ true
unfolding parsed_if
none_called true c e = refl
none_called false c e = absurd (false≢true (sym (ap is_some e)))

some_called : (is_none : Bool) (c : Command) {command : Stored} → parsed_if is_none c ≡ Some command → is_none ≡ false
unfolding parsed_if
some_called true c e = absurd (false≢true (ap is_some e))
some_called false c e = refl

pub no_call : (token : Token) (policy number : ℕ) (body : List ℕ) → called policy number body ≡ None
    → Answered token policy number body (record { token = token; said = Err NotACall })
unfolding called
no_call token policy number body e = none_answered token policy number body (none_called _ _ e)

module _ (policy number : ℕ) (body : List ℕ) (below : (i : ℕ) → get_or body i 0 < 256) {command : Stored}
    (is : called policy number body ≡ Some command) {token : Token} (reached : Reached token policy) where
  a_call : not_a_call policy number body ≡ false
  unfolding called
  a_call = some_called _ _ is

  is_command : command ≡ stored_command (read_command number body)
  unfolding called parsed_if
  is_command = sym (ap or_stored (rw a_call at is))

  holdable : Holdable (read_command number body)
  holdable = (stated body (bytes_of body below) number (is_call policy number body a_call).known).holdable

  -- a call can be stepped
  pub call_steps : CanStep (decision_on policy command token) token
  call_steps =
      record {
        findable = findable reached.comes.shown;
        applicable =
            step_applicable refl refl (is_call policy number body a_call).low reached (read_command number body) holdable is_command;
      }

  -- and its step is what the call promises
  pub call_answered : {r : Token} {said : Result ℕ Refusal} → Stepped (decision_on policy command token) token r said
      → Answered token policy number body (record { token = r; said = said })
  call_answered {r} {said} by p s comes =
      subst (λ (b : Bool). CallAnswer b token p s number body (record { token = r; said = said })) (sym a_call)
      (step_stepped refl refl (is_call policy number body a_call).low by.changes by.answers by.values p s (read_command number body)
      comes holdable is_command)
