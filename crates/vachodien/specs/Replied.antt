-- What the calls from C promise, for any buffers. Document 01: "The C call takes the sheet and the buffer and gives one number: the
-- answer times 65,536, plus the report length for 0, the place for 12, nothing for 13." Assumes nothing.
use Rattle.std.specs.Prelude.{ℕ, ◌*◌, ◌≡◌, Bool, true, false, List, ◌++◌, leb, length, take, Result, Ok, Err}
use Rattle.sheets.specs.Bytes.{two}
use Rattle.sheets.specs.Reports.{Reply, Replies, keys_bytes}
use Rattle.sheets.specs.Calls.{answer_number, call, over}
use Rattle.token.specs.declared.Token.{Token}
use Rattle.token.specs.Known.{marked_keys}
use Rattle.writer.specs.Writer.{wrote, written_number}
use Rattle.token.specs.declared.Short.{Short}
use Rattle.shapes.specs.declared.CallError.{CallError}
use Rattle.shapes.specs.declared.CallError.TheVariants.{Malformed, Short as NoRoom}

-- the C call: the sheet has a reply, and the number and the buffer are those of that reply
pub record CalledOn (s before after : List ℕ) (r : ℕ) : Type 0 where
  pub the_reply : Reply
  pub replies : Replies s the_reply
  pub is : call the_reply before ≡ record { number = r; buffer = after }

-- the writer's call
pub record SheetWritten (policy n : ℕ) (handed before after : List ℕ) (r : ℕ) : Type 0 where
  pub number : r ≡ written_number (wrote policy n handed before).answer
  pub buffer : after ≡ (wrote policy n handed before).buffer

-- the bytes of a report, of what a run leaves: n, m, the first n records, the known keys of the token
unfoldable pub left_report : (n : ℕ) (records : List ℕ) → Token → List ℕ
left_report n records t =
    (two n ++ two (length (marked_keys t.table.entries))) ++ take (3 * n) records ++ keys_bytes (marked_keys t.table.entries)

-- a report into a buffer in which it fits, or not
abbrev pub reported_as : (fits : Bool) (long : ℕ) → Result ℕ Short
reported_as true long = Ok long
reported_as false long = Err (record {})

abbrev pub put_as : (fits : Bool) (report buffer : List ℕ) → List ℕ
put_as true report buffer = over report buffer
put_as false report buffer = buffer

-- this paper's number for each case
unfoldable pub reported_number : Result ℕ Short → ℕ
reported_number (Ok long) = answer_number 0 long
reported_number (Err short) = answer_number 13 0

-- the number that a call gives: with what is given for 0, the place for 12, nothing for 13
unfoldable pub call_number : Result ℕ CallError → ℕ
call_number (Ok given) = answer_number 0 given
call_number (Err (Malformed place)) = answer_number 12 place
call_number (Err NoRoom) = answer_number 13 0

pub record ReportedInto (n : ℕ) (records : List ℕ) (t : Token) (before after : List ℕ) (r : Result ℕ Short) : Type 0 where
  pub answered : r ≡ reported_as (leb (length (left_report n records t)) (length before)) (length (left_report n records t))
  pub written : after ≡ put_as (leb (length (left_report n records t)) (length before)) (left_report n records t) before
