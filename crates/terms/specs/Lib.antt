-- Document 01, read from the top: lists and terms, working out, compromise; last, the way in which working out is computed.
pub mod Lists
pub mod Terms
pub mod WorkingOut
pub mod Compromise
pub mod Following
