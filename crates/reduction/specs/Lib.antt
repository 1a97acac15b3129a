-- The environment in words, and what a step and a reduction promise.
pub mod Store
pub mod Spines
pub mod Lookup
pub mod Stepping
pub mod Aims
