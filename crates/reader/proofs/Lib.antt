-- The tests of a header, an entry and a body; the walk over the entries; what is read from a good sheet.
pub mod Tests
pub mod Checking
pub mod GoodEntries
