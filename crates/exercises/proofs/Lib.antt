-- The starred exercises, proved.
pub mod Exercises
