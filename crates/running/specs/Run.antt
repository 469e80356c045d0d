-- A sheet, checked and run: "A malformed sheet is not run at all"; any other is run from a fresh token under its policy. Assumes nothing.
use Rattle.std.specs.Prelude.{ℕ, ◌≡◌, List}
use Rattle.std.proofs.Math.Option.{Option, none, some}
use Rattle.rules.specs.Templates.{Policy}
use Rattle.rules.specs.Commands.{Command}
use Rattle.rules.specs.State.{State, fresh}
use Rattle.rules.specs.Runs.{Answer, Run}
use Rattle.sheets.specs.Sheets.{Sheet}
use Rattle.sheets.specs.Faults.{first_fault}
use Rattle.sheets.specs.Reports.{records_bytes}
use Rattle.sheets.specs.Calls.{over}
use Rattle.reader.specs.Reader.{checked}
use Rattle.running.specs.declared.Ran.{Ran as Result}
use Rattle.token.specs.Shows.{Shows}
use Rattle.token.specs.Known.{blank_token}

-- what a good sheet leaves: the records of what was said over the front of the buffer, and a token that shows the state at the end
pub record SheetRan (s before after : List ℕ) (r : Result) : Type 0 where
  pub policy : Policy
  pub commands : List Command
  pub said : List Answer
  pub end : State
  pub sheet : Sheet s policy commands
  pub run : Run policy fresh commands said end
  pub shows_end : Shows r.token end
  pub written : after ≡ over (records_bytes said) before

-- what a malformed sheet leaves: nothing written, and the fresh token
pub record NotRun (before after : List ℕ) (r : Result) : Type 0 where
  pub unwritten : after ≡ before
  pub unused : r.token ≡ blank_token

abbrev pub RunOrNot : (fault : Option ℕ) (s before after : List ℕ) (r : Result) → Type 0
RunOrNot none s before after r = SheetRan s before after r
RunOrNot (some place) s before after r = NotRun before after r

pub record RanSheet (s before after : List ℕ) (r : Result) : Type 0 where
  pub is_checked : r.checked ≡ checked s
  pub leaves : RunOrNot (first_fault s) s before after r
