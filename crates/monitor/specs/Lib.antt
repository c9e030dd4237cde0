pub mod Wait
pub mod Patience
