-- `look` sees what the view has: a seal's code is above 0, and a command asks for no more than the two terms that it looks at (ApiLook).
use Rattle.running.specs.Views.{seen_in}
use Rattle.running.proofs.ApiLook.{aim_positive, decided_of_seen}
use Rattle.running.proofs.look.look.Goals as goal

pub find-equal-requires-clause-code_nonzero : goal.find-equal-requires-clause-code_nonzero
find-equal-requires-clause-code_nonzero c = rw c.aim_of.ensures (aim_positive _ _ _ _)

pub returns : goal.returns
unfolding seen_in
returns c = λ policy. rw (c.then_some.ensures, c.is_live.ensures, c.then_some-2.ensures, c.is_live-2.ensures, c.then_some-3.ensures, c.then_some-4.ensures, c.free.ensures)
    (decided_of_seen policy _ _ _ _ c.names_of-names.ensures c.first_at.ensures.value c.other_at.ensures.value c.aim_of.ensures c.find-equal.ensures)
