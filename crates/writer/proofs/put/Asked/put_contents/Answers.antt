-- `Asked::put_contents` meets its contract (Putting). Assumes nothing.
use native.Mathlib.Omega.{arith}
use mathlib.Core.Path.{ap}
use lib.ListN.{length}
use Rattle.sheets.specs.Sheets.{bodies_begin}
use Rattle.writer.proofs.Handed.{body_short}
use Rattle.writer.proofs.Putting.{listing_none, listing_small, listing_next}
use Rattle.writer.proofs.put.Asked.put_contents.Goals as goal

pub loop-i-init : goal.loop-i-init
unfolding bodies_begin
loop-i-init c = rw c.bodies_begin-offset.ensures (listing_none _ _ _)

pub overflow_cast-offset : goal.overflow_cast-offset
unfolding bodies_begin
overflow_cast-offset c = omega (arith, c.bodies_begin-offset.ensures, c.args.self.held.few)

pub overflow_cast-offset-in-loop-i : goal.overflow_cast-offset-in-loop-i
overflow_cast-offset-in-loop-i c =
    let (held, numbered, same) = c.command-command.ensures in
    omega (arith, body_short _ _ held, ap length same)

pub overflow_add-offset : goal.overflow_add-offset
overflow_add-offset c =
    let (held, numbered, same) = c.command-command.ensures in
    omega (
      arith,
      listing_small _ _ _ _ _ _ c.args.self.held c.requires c.loop-i.invariant,
      body_short _ _ held,
      ap length same,
    )

pub loop-i-preserved : goal.loop-i-preserved
loop-i-preserved c =
    let (held, numbered, same) = c.command-command.ensures in
    listing_next _ _ _ _ _ _ c.args.self.held c.requires c.loop-i.invariant c.args.self.bytes c.loop-i-test.true
    numbered same c.put_three.ensures
