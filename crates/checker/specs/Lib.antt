-- What the program's functions promise.
pub mod Arguments
pub mod Answers
pub mod Reports
pub mod Tallies
