-- `run` meets its contract: a good sheet is run from a fresh token, a malformed one leaves everything as it was (RunShown).
use Rattle.running.proofs.CallShown.{bytes_of}
use Rattle.running.proofs.RunShown.{run_asks, run_leaves, not_run}
use borrow.Author.Rules.{rules}
use Rattle.running.proofs.run.Goals as goal

pub returns-in_default : goal.returns-in_default
returns-in_default c = not_run _ c.check-checked.ensures c.in_default.is c.fresh-token.ensures

pub advance-requires : goal.advance-requires
advance-requires c = run_asks _ c.check-checked.ensures c.in-Ok.is c.fresh-token.ensures (search rules)

pub returns-in-Ok : goal.returns-in-Ok
returns-in-Ok c = run_leaves _ c.check-checked.ensures c.in-Ok.is c.fresh-token.ensures
    (bytes_of _ (λ i. (c.type_inv.sheet i).fits)) c.advance.ensures
