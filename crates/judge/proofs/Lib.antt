-- Proofs of the judge.
pub mod Standings
pub mod Sizes
pub mod Cores
pub mod Settling
pub mod Going
pub mod Entering
pub mod Rows
