-- Terms kept in words, and words written behind others.
pub mod Words
pub mod Writing
pub mod Copying
pub mod Rewriting
