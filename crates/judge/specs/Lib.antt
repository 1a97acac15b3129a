-- What the judge promises of its answers, and how judging is kept in words.
pub mod Promise
pub mod Judging
