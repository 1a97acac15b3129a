pub mod ChecksWf
pub mod Have
