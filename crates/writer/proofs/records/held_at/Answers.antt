-- `held_at` meets its contract: a command that a sheet can hold is wholly there (Handed). Assumes nothing.
use mathlib.Core.Path.{refl}
use native.Mathlib.Omega.{arith}
use Prim.Native.Nat.{◌*◌}
use Rattle.sheets.specs.Bytes.{byte_at}
use Rattle.sheets.proofs.Sizes.{body_most}
use Rattle.writer.specs.Writer.{handed_number, handed_length}
use Rattle.writer.proofs.Handed.{body_lent}
use Rattle.writer.proofs.records.held_at.Goals as goal

pub slice_bounds-result-end : goal.slice_bounds-result-end
unfolding byte_at handed_length handed_number
slice_bounds-result-end c = omega (arith, c.requires.whole, c.requires.its_length, body_most (byte_at c.args.handed.now (6 * c.args.i)))

pub returns : goal.returns
unfolding byte_at handed_length handed_number
returns c = (c.requires, refl, body_lent _ _)
