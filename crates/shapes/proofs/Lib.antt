-- The law on constant tables, and the reading of a command.
pub mod Tables
pub mod Parsing
pub mod Policies
