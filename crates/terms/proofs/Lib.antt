-- Lemmas about terms kept in words.
pub mod Appending
pub mod Nodes
pub mod Places
pub mod Walking
pub mod Moving
pub mod Numbers
pub mod Rewriting
pub mod Lifting
pub mod Subterms
pub mod Examples
