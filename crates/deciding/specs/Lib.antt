-- The constant tables, and what is decided on what a command sees.
pub mod Tables
pub mod Decisions
