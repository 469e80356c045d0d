-- What the program `rounds` prints, in document 01's words; then how that text is computed from what a run leaves behind, and how
-- bytes are written into a buffer.
pub mod Text
pub mod Printing
pub mod Writing
