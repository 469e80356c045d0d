-- Bits of words, what the code does with them, and what that says of the live handles.
pub mod LiveWordsBits
pub mod LiveWordsCode
pub mod LiveWords
