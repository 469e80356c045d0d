-- `handles::free` finds the lowest number not live, in the first word that is not full. Rests on the laws of the words.
use Rattle.std.proofs.Common.{rules, ◌≡◌, ◌≢◌, ◌<◌, ◌∙◌, ℕ, arith, get_or, length, Some, None}
use Rattle.handles.proofs.LiveWordsCode.{array_words, full, none_free, free_found}
use Rattle.handles.proofs.free.Goals as goal

pub returns-in_err-word : goal.returns-in_err-word
returns-in_err-word c =
    let four = (array_words _ _ c.well_formed.0).four in
    let none : c.position.result ≡ None = c.in_err-word.was in
    let each : (j : ℕ) → j < 4 → get_or c.args.live j 0 ≡ full = search (rules, four) in
    c.from_residual.ensures ∙ none_free c.args.live each

pub returns : goal.returns
returns c =
    let four = (array_words _ _ c.well_formed.0).four in
    let found : c.position.result ≡ Some c.in_ok-word.word = c.in_ok-word.was in
    let inside : c.in_ok-word.word < length c.args.live = search rules in
    let not_full : get_or c.args.live c.in_ok-word.word 0 ≢ full = search rules in
    let each : (j : ℕ) → j < c.in_ok-word.word → get_or c.args.live j 0 ≡ full = search rules in
    free_found c.args.live (array_words _ _ c.well_formed.0) c.in_ok-word.word (omega (arith, four)) not_full each
