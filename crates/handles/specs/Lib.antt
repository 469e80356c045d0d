-- The live handles as words.
pub mod Live
