-- `check` meets its contract: with i entries behind there was no fault, and the bodies so far end at `end`
-- (Checking). Assumes nothing.
use mathlib.Core.Path.{ap, sym, ◌∙◌}
use Rattle.std.specs.Prelude.{Err}
use Rattle.std.proofs.lemmas.Result.{err_from_is_err_and}
use Rattle.reader.proofs.Checking.{header_named, begins, entry_inside, entry_named, goes_on, end_named, end_good}
use Rattle.reader.proofs.check.Goals as goal

pub returns-in_err-header : goal.returns-in_err-header
returns-in_err-header c =
    let (fault, answered, same) = err_from_is_err_and c.from_residual.result c.from_residual.ensures.1 in
    let (e, at) = c.in_err-header.ensures in
    answered ∙ ap Err (same ∙ at) ∙ header_named _ e

pub loop-i-init : goal.loop-i-init
loop-i-init c =
    let (e, read) = c.in_ok-header.ensures in
    begins _ _ read _ c.bodies_begin-end.ensures e

pub row_at-row-requires : goal.row_at-row-requires
row_at-row-requires c = entry_inside _ _ c.in_ok-header.ensures.1 _ _ c.loop-i.invariant c.loop-i-test.true

pub returns-then-is_faulty : goal.returns-then-is_faulty
returns-then-is_faulty c = entry_named _ _ c.in_ok-header.ensures.1 _ _ c.loop-i.invariant c.loop-i-test.true
    _ c.row_at-row.ensures (sym c.if-is_faulty.ensures)

pub loop-i-preserved : goal.loop-i-preserved
loop-i-preserved c = goes_on _ _ c.in_ok-header.ensures.1 _ _ c.loop-i.invariant c.loop-i-test.true
    _ c.row_at-row.ensures (sym c.if-is_faulty.ensures) _ c.end-end.ensures

pub returns-then-end-sheet : goal.returns-then-end-sheet
returns-then-end-sheet c = end_named _ _ c.in_ok-header.ensures.1 _ _ c.loop-i.invariant c.loop-i-test.false c.if-end-sheet.true

pub returns : goal.returns
returns c = end_good _ _ c.in_ok-header.ensures.1 _ _ c.loop-i.invariant c.loop-i-test.false c.if-end-sheet.false
