-- What the calls from C promise.
pub mod Replied
