-- The report written part by part; the reply to a sheet, of what a run leaves; the demands, of the C call; there
-- and back between reader and writer.
pub mod Numbers
pub mod ReportWritten
pub mod SheetReplied
pub mod EachCommand
pub mod Rests
pub mod Demands
pub mod RoundTrips
