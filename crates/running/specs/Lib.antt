-- What a command sees of the token, how a leak is followed and a change made, and what the direct call and a run promise.
pub mod Views
pub mod Leaks
pub mod Applied
pub mod Stores
pub mod Said
pub mod Direct
pub mod Advance
pub mod Run
