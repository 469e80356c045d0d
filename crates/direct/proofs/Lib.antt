-- A fresh token under any policy.
pub mod Begun
