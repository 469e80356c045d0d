-- `text_of` meets its contract: the line of a malformed sheet, or the text of what the run left (TextTold).
use Rattle.text.proofs.TextTold.{run_asks, malformed_told, run_told}
use Rattle.text.proofs.text_of.Goals as goal

pub write_run-requires : goal.write_run-requires
write_run-requires c = run_asks c.run-ran.ensures c.in-Ok.is

pub returns-in-Err : goal.returns-in-Err
returns-in-Err c = malformed_told c.run-ran.ensures c.in-Err.is c.write_malformed.ensures

pub returns-in-Ok : goal.returns-in-Ok
returns-in-Ok c = run_told c.run-ran.ensures c.in-Ok.is c.write_run.ensures
