-- `Asked::put_sheet` meets its contract: the header, then the table and then the bodies in the parts of the buffer behind
-- (Whole). Assumes nothing.
use native.Mathlib.Omega.{arith}
use Rattle.sheets.specs.Sheets.{bodies_begin}
use Rattle.writer.proofs.Over.{lent_length}
use Rattle.writer.proofs.Whole.{all_room, header_room, table_room, all_written}
use Rattle.writer.proofs.put.Asked.put_sheet.Goals as goal

pub put_three-requires : goal.put_three-requires
put_three-requires c = omega (arith, all_room _ _ _ _ c.requires)

pub slice_bounds-put_contents-count : goal.slice_bounds-put_contents-count
slice_bounds-put_contents-count c = omega (arith, header_room _ _ _ _ c.requires c.put_three.ensures)

pub slice_bounds-put_contents-start : goal.slice_bounds-put_contents-start
slice_bounds-put_contents-start c = omega (arith, header_room _ _ _ _ c.requires c.put_three.ensures)

pub put_contents-requires : goal.put_contents-requires
put_contents-requires c = rw lent_length (omega (arith, header_room _ _ _ _ c.requires c.put_three.ensures))

pub slice_bounds-put_bodies-count : goal.slice_bounds-put_bodies-count
unfolding bodies_begin
slice_bounds-put_bodies-count c = omega (arith, table_room _ _ _ _ c.requires c.put_three.ensures c.put_contents.ensures, c.bodies_begin-begin.ensures)

pub slice_bounds-put_bodies-start : goal.slice_bounds-put_bodies-start
unfolding bodies_begin
slice_bounds-put_bodies-start c = omega (arith, table_room _ _ _ _ c.requires c.put_three.ensures c.put_contents.ensures, c.bodies_begin-begin.ensures)

pub put_bodies-requires : goal.put_bodies-requires
unfolding bodies_begin
put_bodies-requires c = rw lent_length (omega (arith, table_room _ _ _ _ c.requires c.put_three.ensures c.put_contents.ensures, c.bodies_begin-begin.ensures))

pub returns : goal.returns
unfolding bodies_begin
returns c = rw c.bodies_begin-begin.ensures
    (all_written _ _ _ _ c.requires c.put_three.ensures c.put_contents.ensures c.args.self.low
    (rw c.bodies_begin-begin.ensures at c.put_bodies.ensures))
