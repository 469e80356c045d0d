-- `Asked::put_bodies` meets its contract (Putting). Assumes nothing.
use native.Mathlib.Omega.{arith}
use mathlib.Core.Path.{ap, ◌∙◌}
use Rattle.writer.proofs.Over.{over_part}
use lib.ListN.{length}
use Rattle.writer.proofs.Handed.{body_short}
use Rattle.writer.proofs.Putting.{copying_none, copying_small, copying_room, copying_next}
use Rattle.writer.proofs.put.Asked.put_bodies.Goals as goal

pub loop-i-init : goal.loop-i-init
loop-i-init c = copying_none _ _ _

pub overflow_add-end : goal.overflow_add-end
overflow_add-end c =
    let (held, numbered, same) = c.command.ensures in
    omega (
      arith,
      copying_small _ _ _ _ _ _ c.args.self.held c.requires c.loop-i.invariant,
      body_short _ _ held,
      ap length same,
    )

pub slice_bounds-put_bytes-end : goal.slice_bounds-put_bytes-end
slice_bounds-put_bytes-end c =
    let (held, numbered, same) = c.command.ensures in
    omega (
      arith,
      copying_room _ _ _ _ _ _ c.args.self.held c.requires c.loop-i.invariant c.args.self.bytes c.loop-i-test.true same,
    )

pub loop-i-preserved : goal.loop-i-preserved
loop-i-preserved c =
    let (held, numbered, same) = c.command.ensures in
    let room = copying_room _ _ _ _ _ _ c.args.self.held c.requires c.loop-i.invariant c.args.self.bytes c.loop-i-test.true same in
    copying_next _ _ _ _ _ _ c.args.self.held c.requires c.loop-i.invariant c.args.self.bytes c.loop-i-test.true
    same (c.put_bytes.ensures ∙ over_part _ _ _ room)
