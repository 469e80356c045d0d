-- `writer::write` meets its contract: all that is handed over is looked through first; only then, and only where the sheet fits,
-- is anything written (Answers). Assumes nothing.
use native.Mathlib.Omega.{arith}
use mathlib.Core.Path.{ap, ◌∙◌}
use Rattle.std.specs.Prelude.{Err}
use Rattle.std.proofs.lemmas.Result.{err_from_is_err_and}
use Rattle.writer.proofs.Answers.{long_told, long_most, can_hold, answers_fault, answers_short, answers_sheet}
use Rattle.writer.proofs.Handed.{bytes_by_place}
use Rattle.writer.proofs.write.Goals as goal

pub returns-in_err-long : goal.returns-in_err-long
returns-in_err-long c =
    let (error, answered, same) = err_from_is_err_and c.from_residual.result c.from_residual.ensures.1 in
    rw answered (answers_fault _ _ _ (ap Err same ∙ c.in_err-long.ensures) _)

pub returns-then-out-long : goal.returns-then-out-long
returns-then-out-long c = answers_short _ _ _ c.in_ok-long.ensures _ c.if-out-long.true

pub invariant_of-asked : goal.invariant_of-asked
invariant_of-asked c =
    let (low, held) = can_hold _ _ _ c.in_ok-long.ensures in
    record { low = low; held = held; bytes = bytes_by_place _ (λ i. (c.type_inv.handed i).fits) }

pub put_sheet-requires : goal.put_sheet-requires
put_sheet-requires c = omega (arith, long_told _ _ _ c.in_ok-long.ensures)

pub overflow_cast-result : goal.overflow_cast-result
overflow_cast-result c = omega (
  arith,
  long_most _ _ _ c.in_ok-long.ensures,
)

pub returns : goal.returns
returns c = answers_sheet _ _ _ c.in_ok-long.ensures _ _ c.if-out-long.false c.put_sheet.ensures
