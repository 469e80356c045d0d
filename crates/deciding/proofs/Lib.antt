-- The constant tables' rules, what the proofs of `decide` rest on, and that its contract leaves no room.
pub mod TableRules
pub mod Asking
pub mod Contract
