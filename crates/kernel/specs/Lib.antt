-- What is in question while a declaration is checked; inference as a walk; the answers.
pub mod Environments
pub mod Failures
pub mod Inference
pub mod Frames
pub mod Machine
pub mod Leaves
pub mod Reducing
pub mod Resting
pub mod Turns
pub mod Downs
pub mod Answers
pub mod Checking
