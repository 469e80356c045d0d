-- The starred exercises, as a table.
pub mod Exercises
