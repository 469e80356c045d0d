-- Document 01, "Sheet and report": what a sheet is answered, the report's bytes, and the tally. "Report: n, then m, two bytes
-- each; n records of three bytes (answer, two-byte value); then the m known keys' numbers, two bytes each, ascending. It needs
-- 4 + 3n + 2m bytes." "12 runs nothing." Assumes nothing.
use Rattle.std.specs.Prelude.{ℕ, zero, suc, ◌≡◌, List, [], ◌∷◌, ◌++◌, length}
use Rattle.std.proofs.Math.Option.{some}
use Rattle.rules.specs.Templates.{Policy}
use Rattle.rules.specs.Commands.{Command}
use Rattle.rules.specs.State.{State, fresh}
use Rattle.rules.specs.Runs.{Answer, Run}
use Rattle.rules.specs.Known.{KnownList}
use Rattle.sheets.specs.Bytes.{two}
use Rattle.sheets.specs.Sheets.{Sheet}
use Rattle.sheets.specs.Faults.{first_fault}

-- a malformed sheet is answered 12 with the place of its first fault; any other is run from a fresh token under its policy
pub data Reply : Type 0 where
  malformed : (place : ℕ) → Reply
  reported : (said : List Answer) (known : List ℕ) → Reply

pub data Replies (s : List ℕ) : Reply → Type 0 where
  is_malformed : {place : ℕ} → first_fault s ≡ some place → Replies s (malformed place)
  has_run : {p : Policy} {cs : List Command} {said : List Answer} {end : State} {known : List ℕ}
      → Sheet s p cs
      → Run p fresh cs said end
      → KnownList end known
      → Replies s (reported said known)

unfoldable pub records_bytes : List Answer → List ℕ
records_bytes [] = []
records_bytes (a ∷ said) = a.answer ∷ two a.value ++ records_bytes said

unfoldable pub keys_bytes : List ℕ → List ℕ
keys_bytes [] = []
keys_bytes (k ∷ known) = two k ++ keys_bytes known

unfoldable pub report_bytes : (said : List Answer) (known : List ℕ) → List ℕ
report_bytes said known = two (length said) ++ two (length known) ++ records_bytes said ++ keys_bytes known

-- "the tally counts commands answered 0 and the others"
pub record Tally : Type 0 where
  pub done : ℕ
  pub refused : ℕ

unfoldable pub count_one : (answer : ℕ) → Tally → Tally
count_one zero t = record { done = suc t.done; refused = t.refused }
count_one (suc n) t = record { done = t.done; refused = suc t.refused }

unfoldable pub tally : List Answer → Tally
tally [] = record { done = 0; refused = 0 }
tally (a ∷ said) = count_one a.answer (tally said)
