-- One name for all that the reply to a sheet computes with: a proof that computes names it on its `unfolding` line, and these
-- unfold. Rests on the definitions alone.
use Rattle.rules.proofs.Opened.{rules_opened}
use Rattle.sheets.specs.Bytes.{two, byte_at, two_at}
use Rattle.sheets.specs.Sheets.{bodies_begin}
use Rattle.sheets.specs.Faults.{body_lengths, known_number, body_length, count, entry_number, entry_offset, bodies_end}
use Rattle.sheets.specs.Faults.{header_fault, entry_fault, bytes_follow, fault_at, or_else, smallest, first_fault}
use Rattle.sheets.specs.Reports.{records_bytes, keys_bytes, report_bytes}
use Rattle.sheets.specs.Reading.{readers, read_command, read_commands, read_policy, run_reply, reply_or, reply}

unfoldable pub sheets_opened : Unit {0}
unfolding rules_opened two byte_at two_at bodies_begin body_lengths known_number body_length count entry_number entry_offset
    bodies_end header_fault entry_fault bytes_follow fault_at or_else smallest first_fault records_bytes keys_bytes report_bytes
    readers read_command read_commands read_policy run_reply reply_or reply
sheets_opened = tt
