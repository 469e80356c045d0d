-- `follow` holds what the leak leads to, and nothing else new. At the head of its loop it stands in a walk through the leak
-- (LeakFollow.antt); each turn takes a key that waits, passes a seal or learns a key, and leaves less to do (LeakTurns.antt).
-- Rests on these two.
use mathlib.Core.Path.{refl, sym, ◌∙◌}
use mathlib.Core.Bool.{false≢true}
use native.Mathlib.Omega.{arith}
use Rattle.running.proofs.LeakFollow.{follow_begins, none_left, follow_ends}
use Rattle.running.proofs.LeakTurns.{pop_inside, follow_pops, pop_less, follow_passes, pass_less}
use Rattle.running.proofs.LeakTurns.{learn_room, follow_learns, learn_less, seal_inside}
use Rattle.running.proofs.leaks.follow.Goals as goal

pub loop-link-init : goal.loop-link-init
loop-link-init c = follow_begins _ c.requires c.known.ensures (rw (c.push.ensures.items, c.key_of.ensures, c.new-waiting.ensures) refl)

pub returns-in_default-pop : goal.returns-in_default-pop
returns-in_default-pop c = follow_ends _ c.requires c.known.ensures c.loop-link.invariant (none_left (λ more. false≢true (c.in_default-pop.ensures.variant.1 more))) c.in_default.is

pub bounds-links-key : goal.bounds-links-key
bounds-links-key c = pop_inside c.loop-link.invariant c.in_default.is _ _ c.in-Some-pop.ensures.items

pub loop-link-smaller-in_default : goal.loop-link-smaller-in_default
loop-link-smaller-in_default c = pop_less c.loop-link.invariant c.in_default.is _ _ c.in-Some-pop.ensures.items

pub loop-link-preserved-in_default : goal.loop-link-preserved-in_default
loop-link-preserved-in_default c = follow_pops c.loop-link.invariant c.in_default.is _ _ c.in-Some-pop.ensures.items

pub bounds-links-i : goal.bounds-links-i
bounds-links-i c = seal_inside c.loop-link.invariant _ c.in-Some.is

pub bounds-table-i : goal.bounds-table-i
bounds-table-i c = seal_inside c.loop-link.invariant _ c.in-Some.is

pub push-requires-then-is_unknown_key : goal.push-requires-then-is_unknown_key
push-requires-then-is_unknown_key c = (
  omega arith,
  learn_room c.loop-link.invariant _ c.in-Some.is c.payload_no-q.ensures (sym c.is_unknown_key.ensures ∙ c.if-is_unknown_key.true)
      c.known-then-is_unknown_key.ensures c.key_of-then-is_unknown_key.ensures,
)

pub loop-link-smaller-then-is_unknown_key : goal.loop-link-smaller-then-is_unknown_key
loop-link-smaller-then-is_unknown_key c = rw c.push-then-is_unknown_key.ensures.items
    (learn_less c.loop-link.invariant _ c.in-Some.is c.payload_no-q.ensures (sym c.is_unknown_key.ensures ∙ c.if-is_unknown_key.true)
    c.known-then-is_unknown_key.ensures c.key_of-then-is_unknown_key.ensures)

pub loop-link-preserved-then-is_unknown_key : goal.loop-link-preserved-then-is_unknown_key
loop-link-preserved-then-is_unknown_key c = rw c.push-then-is_unknown_key.ensures.items
    (follow_learns c.loop-link.invariant _ c.in-Some.is c.payload_no-q.ensures (sym c.is_unknown_key.ensures ∙ c.if-is_unknown_key.true)
    c.known-then-is_unknown_key.ensures c.key_of-then-is_unknown_key.ensures)

pub loop-link-smaller : goal.loop-link-smaller
loop-link-smaller c = pass_less c.loop-link.invariant _ c.in-Some.is c.payload_no-q.ensures
    (sym c.is_unknown_key.ensures ∙ c.if-is_unknown_key.false)

pub loop-link-preserved : goal.loop-link-preserved
loop-link-preserved c = follow_passes c.loop-link.invariant _ c.in-Some.is c.payload_no-q.ensures
    (sym c.is_unknown_key.ensures ∙ c.if-is_unknown_key.false)
