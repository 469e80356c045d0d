-- `advance` meets its contract: each turn of the loop steps a command and puts its record, and what was so far goes on (Advancing).
use mathlib.Core.Path.{sym, ◌∙◌}
use Rattle.running.proofs.Advancing.{advance_begins, entry_there, next_steps, advance_on}
use Rattle.running.proofs.CallShown.{bytes_of}
use Rattle.running.proofs.advance.advance.Goals as goal

pub loop-i-init : goal.loop-i-init
loop-i-init c = advance_begins c.requires (bytes_of _ (λ i. (c.type_inv.sheet i).fits))

pub unwrap-entry-requires : goal.unwrap-entry-requires
unwrap-entry-requires c = rw c.read_entry.ensures (entry_there c.loop-i.invariant c.loop-i-test.true)

pub step-said-requires : goal.step-said-requires
step-said-requires c = next_steps c.loop-i.invariant c.loop-i-test.true (sym c.unwrap-entry.ensures ∙ c.read_entry.ensures)

pub loop-i-preserved : goal.loop-i-preserved
loop-i-preserved c = advance_on c.loop-i.invariant c.loop-i-test.true (sym c.unwrap-entry.ensures ∙ c.read_entry.ensures)
    c.step-said.ensures c.put_record.ensures
