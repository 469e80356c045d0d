-- What stands beside the answer in the C call's number, a report's length or a place, is below 65,536: so the number tells both. A
-- command makes at most one key, so no more keys are known than there are commands. Rests on the rules' Steps and KnownLists.
use Prim.Native.Nat.{ℕ, zero, suc, ◌+◌, ◌≤◌, ◌<◌}
use native.Mathlib.Omega.{arith}
use mathlib.Core.Path.{◌≡◌, ap}
use mathlib.Core.Logic.{⊎_elim}
use mathlib.Core.Bool.{true, false}
use mathlib.Core.List.{List, [], ◌∷◌}
use mathlib.Core.Option.{some}
use lib.ListN.{length, length-append}
use Rattle.terms.specs.Lists.{is_in}
use Rattle.terms.specs.Following.{reached}
use Rattle.terms.proofs.Lists.{bool_cases}
use Rattle.rules.specs.Templates.{Policy}
use Rattle.rules.specs.Commands.{Command, GENERATE, WRAP, UNWRAP, ENCRYPT, DECRYPT, CORRUPT, DESTROY, OWN_KEY, OWN_DATA, SEAL}
use Rattle.rules.specs.State.{State, generated, own, fresh, new_key}
use Rattle.rules.specs.Changes.{answers, changes, giving, all_changes, change_now, all_of, after}
use Rattle.rules.specs.Runs.{Answer, Step, Run, ends, then}
use Rattle.rules.specs.Known.{KnownList}
use Rattle.rules.specs.Computing.{below_in, known_of}
use Rattle.rules.proofs.Steps.{done_or_refused}
use Rattle.rules.proofs.Prefixes.{one_answer_each}
use Rattle.rules.proofs.SoundKept.{sound}
use Rattle.rules.proofs.KnownLists.{known_list_unique, known_of_is}
use Rattle.sheets.specs.Sheets.{Sheet}
use Rattle.sheets.specs.Faults.{first_fault}
use Rattle.sheets.specs.Reports.{report_bytes}
use Rattle.sheets.proofs.Places.{first_fault_some}
use Rattle.sheets.proofs.Faultless.{place_most}
use Rattle.sheets.proofs.Reports.{report_length}

-- a done command makes at most one key
one_more : (s : State) (c : Command) → length (after s c).now.origins ≤ suc (length s.now.origins)
unfolding after all_of all_changes changes giving answers change_now
one_more s (GENERATE f) = omega (arith, length-append s.now.origins (generated ∷ []))
one_more s (WRAP a b) = omega arith
one_more s (UNWRAP h t f) = omega arith
one_more s (ENCRYPT h t) = omega arith
one_more s (DECRYPT h t) = omega arith
one_more s (CORRUPT h) = omega arith
one_more s (DESTROY h) = omega arith
one_more s OWN_KEY = omega (arith, length-append s.now.origins (own ∷ []))
one_more s OWN_DATA = omega arith
one_more s (SEAL k t) = omega arith

step_more : {p : Policy} {s next : State} {c : Command} {a : Answer} → Step p s c a next
    → length next.now.origins ≤ suc (length s.now.origins)
step_more {s = s} {c = c} st =
    ⊎_elim (λ d. rw d.goes_on (one_more s c)) (λ r. rw r.unchanged (omega arith)) (done_or_refused st)

run_more : {p : Policy} {s end : State} {cs : List Command} {said : List Answer} → Run p s cs said end
    → length end.now.origins ≤ length s.now.origins + length cs
run_more ends = omega arith
run_more (then st run) = omega (arith, step_more st, run_more run)

-- at most n numbers are below n
below_few : (n : ℕ) (list : List ℕ) → length (below_in n list) ≤ n
unfolding below_in
below_few zero list = omega arith
below_few (suc n) list =
    bool_cases (is_in n list)
    (λ (e : is_in n list ≡ true). rw e (omega (arith, length-append (below_in n list) (n ∷ []), below_few n list)))
    (λ (e : is_in n list ≡ false). rw e (omega (arith, length-append (below_in n list) [], below_few n list)))

computed_few : (s : State) → length (known_of s) ≤ length s.now.origins
unfolding known_of new_key
computed_few s = below_few (length s.now.origins) (reached s.past.own s.past.given s.now.table)

module _ {p : Policy} {cs : List Command} {said : List Answer} {end : State} {known : List ℕ} (run : Run p fresh cs said end)
    (list : KnownList end known) where
  -- no more keys are known than there are commands
  pub known_few : length known ≤ length cs
  unfolding fresh
  known_few =
      let same = known_list_unique list (known_of_is (sound (record { commands = cs; said = said; run = run }))) in
      omega (arith, ap length same, computed_few end, run_more run)

  -- a report's length is below 65,536
  pub report_below : {s : List ℕ} → Sheet s p cs → length (report_bytes said known) < 65536
  report_below sheet = omega (arith, report_length said known, one_answer_each run, sheet.few, known_few)

-- and so is a place
pub place_below : (s : List ℕ) {place : ℕ} → first_fault s ≡ some place → place < 65536
place_below s {place} e = omega (arith, place_most place ((first_fault_some s place).0 e))
