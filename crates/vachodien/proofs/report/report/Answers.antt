-- `report` meets its contract: nothing is written into a short buffer; else the counts, the records behind them and the keys behind
-- these (ReportWritten).
use mathlib.Core.Path.{refl}
use native.Mathlib.Omega.{arith}
use Rattle.vachodien.proofs.ReportWritten.{marked_few, report_short, report_whole}
use Rattle.vachodien.proofs.report.report.Goals as goal

pub returns-then-out-long : goal.returns-then-out-long
returns-then-out-long c = report_short _ _ _ c.requires.n_in_bounds _ _ c.known_count-m.ensures c.if-out-long.true

pub overflow_cast-result : goal.overflow_cast-result
overflow_cast-result c = let few = marked_few c.args.token.table.entries in
    record { fits = omega (arith, c.known_count-m.ensures, c.requires.n_le_most_commands, few, c.well_formed.1.1.0.1.1.0.1.1.0.1.0.1) }

pub returns : goal.returns
returns c = report_whole _ _ _ c.requires.n_in_bounds _ _ c.known_count-m.ensures c.if-out-long.false _ c.put_counts.ensures _
    c.copy_from_slice.ensures.after _ refl _ _ c.known_keys.ensures
