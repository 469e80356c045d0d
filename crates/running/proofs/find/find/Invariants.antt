-- `find` meets its contract: it finds the last number with the code. The loop's invariant: the walk through the bucket's chain is at
-- this link (Walking of ChainsFound). The measure is the link, since each link leads to a smaller number. Rests on ChainsFound.
use Rattle.token.specs.Chains.{as_number}
use Rattle.running.proofs.ChainsFound.{Walking}
use Rattle.running.proofs.find.find.Given as goal

abbrev pub invariant-loop-link : goal.invariant-loop-link
invariant-loop-link l = Walking l.links.codes l.code l.link

abbrev pub decreases-loop-link : goal.decreases-loop-link
decreases-loop-link l = as_number l.link
