-- Elaboration: from declarations as they are written to entries of an environment.
pub mod Elaboration
pub mod Declarations
pub mod Theorems
