-- From the ground up: bytes placed in a buffer, numbers in decimal, the names of policies, a line word by word, the lines of commands and
-- of keys, the tally, the whole text; then that the text computed is the text of document 01, and that every byte string has one text.
pub mod Placed
pub mod Decimals
pub mod PolicyNames
pub mod WordByWord
pub mod CommandLines
pub mod KnownKeyLines
pub mod Counts
pub mod WholeText
pub mod PrintedLines
pub mod PrintedKeys
pub mod Printed
pub mod EveryText
pub mod TextTold
pub mod FirstBytes
pub mod Examples
