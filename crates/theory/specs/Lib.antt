-- The rules of the language: terms, the types of heads, reduction, typing; and the theorems about them.
pub mod Terms
pub mod Environment
pub mod Reduction
pub mod Typing
pub mod Question
pub mod Theorems
