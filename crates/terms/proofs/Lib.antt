-- The laws of document 01's words, from the ground up: lists, terms, working out, and following as a way to decide it.
pub mod Lists
pub mod Terms
pub mod Derivation
pub mod Cut
pub mod Covers
pub mod Soundness
pub mod Completeness
pub mod Links
pub mod Finding
pub mod Following
pub mod Decision
pub mod Compromise
pub mod Opened
