-- `find` meets its contract: it finds the last number with the code. The loop's invariant: the walk through the bucket's chain is at
-- this link (Walking of ChainsFound). The measure is the link, since each link leads to a smaller number. Rests on ChainsFound.
use Rattle.running.proofs.ChainsFound.{walk_begins, walk_falls, walk_found, walk_goes_on, walk_ends}
use Rattle.running.proofs.find.find.Goals as goal

pub loop-link-init : goal.loop-link-init
loop-link-init c = rw c.bucket_of.ensures.value (walk_begins _ _ _ _ c.requires.findable c.requires.code_nonzero)

pub returns-then-links-i : goal.returns-then-links-i
returns-then-links-i c = walk_found _ _ _ _ _ _
    c.requires.findable
    c.requires.code_nonzero
    c.loop-link.invariant
    c.in-Some.is
    c.if-links-i.true

pub loop-link-smaller : goal.loop-link-smaller
loop-link-smaller c = walk_falls _ _ _ _ _ _
    c.requires.findable
    c.requires.code_nonzero
    c.loop-link.invariant
    c.in-Some.is

pub loop-link-preserved : goal.loop-link-preserved
loop-link-preserved c = walk_goes_on _ _ _ _ _ _
    c.requires.findable
    c.requires.code_nonzero
    c.loop-link.invariant
    c.in-Some.is
    c.if-links-i.false

pub returns : goal.returns
returns c = walk_ends _ _ _ c.loop-link.invariant c.in_default.is
