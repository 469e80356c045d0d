-- What reading a sheet gives; last, what the reader's own parts answer.
pub mod Reader
pub mod Parts
