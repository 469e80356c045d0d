-- `row_at` meets its contract: the entry's number is its first byte, and its offset the two behind. Assumes nothing.
use Rattle.sheets.specs.Bytes.{byte_at}
use Rattle.sheets.specs.Sheets.{bodies_begin}
use Rattle.sheets.specs.Faults.{entry_number, entry_offset}
use Rattle.reader.proofs.table.row_at.Goals as goal

pub returns : goal.returns
unfolding bodies_begin byte_at entry_number entry_offset
returns c = rw (c.two_at.ensures, c.bodies_begin-at.ensures)
