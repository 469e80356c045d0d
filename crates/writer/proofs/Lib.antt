-- From the ground up: bytes over a buffer, a sheet with one command more, what is handed over, and what each function keeps; then
-- what the contract leaves no room for, that what is written is a sheet, and the way there and back.
pub mod Over
pub mod Longer
pub mod Handed
pub mod Commands
pub mod Looking
pub mod Putting
pub mod Whole
pub mod Answers
pub mod Unique
pub mod Asked
pub mod RoundTrips
pub mod NoneLost
pub mod Example
