-- The chains of links, the token that shows a state, and what a token tells of it.
pub mod ChainsLast
pub mod ChainsKept
pub mod Shown
pub mod ApiKnown
pub mod ApiWritten
pub mod KnownShown
pub mod TellsShown
