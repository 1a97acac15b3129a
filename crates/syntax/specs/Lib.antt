-- The text format: surface terms, tokens, the grammar, and how a parsed text is kept in words.
pub mod Surface
pub mod Tokens
pub mod Grammar
pub mod Tree
pub mod Tags
pub mod Reader
pub mod Lexing
pub mod Writing
pub mod Parsing
pub mod Declaring
pub mod Phrases
pub mod Lines
pub mod Headers
