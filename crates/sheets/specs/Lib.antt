-- Document 01, "Sheet and report", read from the top: bytes, a sheet's bytes, the place of a fault, the report's bytes, the C
-- call's number; last, how a sheet is read.
pub mod Bytes
pub mod Hex
pub mod Sheets
pub mod Faults
pub mod OneCommand
pub mod Reports
pub mod Calls
pub mod Reading
