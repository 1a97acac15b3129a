-- Names resolved: what plain terms stand for, the names kept in words, and what is promised of them.
pub mod Resolving
pub mod Names
pub mod Nodes
pub mod Frames
pub mod Entries
