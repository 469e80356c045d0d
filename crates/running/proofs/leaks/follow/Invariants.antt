-- `follow` holds what the leak leads to, and nothing else new. At the head of its loop it stands in a walk through the leak
-- (LeakFollow.antt); each turn takes a key that waits, passes a seal or learns a key, and leaves less to do (LeakTurns.antt).
-- Rests on these two.
use Rattle.running.proofs.LeakFollow.{Following, left}
use Rattle.running.proofs.leaks.follow.Given as goal

abbrev pub invariant-loop-link : goal.invariant-loop-link
invariant-loop-link l = Following l.links.newest l.links.older l.initial.table l.at l.table l.waiting.items l.link

abbrev pub decreases-loop-link : goal.decreases-loop-link
decreases-loop-link l = left l.table l.waiting.items l.link
