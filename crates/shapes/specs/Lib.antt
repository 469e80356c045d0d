-- The code's own words: entries and what they name, a command from its bytes, and a policy from its number.
pub mod Entries
pub mod Commands
pub mod Policies
