-- Document 01, read from the top: flags, templates, commands, the state, what a done command does, what is refused, runs, the
-- known list; last, how a run is computed.
pub mod Flags
pub mod Templates
pub mod Commands
pub mod State
pub mod Changes
pub mod Refusals
pub mod Runs
pub mod Known
pub mod Computing
