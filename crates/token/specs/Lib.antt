-- What the token's parts show of document 01's state, and what a token tells.
pub mod Chains
pub mod Shows
pub mod Known
