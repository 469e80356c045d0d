-- `entry` meets its contract: it reads the number and the body that are there (Tests). Assumes nothing.
use mathlib.Core.Path.{◌∙◌, ap, sym}
use Rattle.reader.specs.declared.table.Row.{Row}
use Rattle.reader.specs.Reader.{read_as}
use Rattle.reader.proofs.Tests.{no_entry, the_entry}
use Rattle.reader.proofs.entry.Goals as goal

pub returns-in_err-row : goal.returns-in_err-row
returns-in_err-row c = c.from_residual.ensures ∙ sym (no_entry _ _ c.in_err-row.ensures)

pub returns-in_err-command : goal.returns-in_err-command
unfolding read_as
returns-in_err-command c = c.from_residual-in_err-command.ensures
    ∙ the_entry _ _ _ _ _ c.in_ok-row.ensures.0
    (ap (λ (r : Row). r.number) c.in_ok-row.ensures.1)
    c.body.ensures c.in_err-command.ensures

pub returns : goal.returns
unfolding read_as
returns c = the_entry _ _ _ _ _ c.in_ok-row.ensures.0
    (ap (λ (r : Row). r.number) c.in_ok-row.ensures.1)
    c.body.ensures c.in_ok-command.ensures
