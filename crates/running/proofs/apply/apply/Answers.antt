-- `apply` makes the change: each part is stored as its own function says, and a leak is followed where there is one (Stored).
use Rattle.running.proofs.Stored.{seal_followable}
use Rattle.running.proofs.apply.apply.Goals as goal

pub follow-requires : goal.follow-requires
follow-requires c = seal_followable _ c.requires c.in-NewSeal.is c.if-leaks.true c.append-in-NewSeal.ensures c.link.ensures
