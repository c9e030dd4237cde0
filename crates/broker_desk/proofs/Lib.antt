pub mod Additions
pub mod ItemSteps
