-- Lemmas about what the program computes.
pub mod Spelling
pub mod Named
