-- The definitions that the contracts of this crate cite.
pub mod Asked
pub mod CommandLine
pub mod Owner
