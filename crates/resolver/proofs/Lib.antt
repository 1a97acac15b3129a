-- Lemmas about resolved terms.
pub mod Resolution
pub mod Plain
pub mod Naming
pub mod Shapes
pub mod Stacked
pub mod Bindings
pub mod Walked
pub mod Doing
pub mod Entering
pub mod Readable
pub mod Examples
