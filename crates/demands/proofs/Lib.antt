-- The three demands.
pub mod Demands
