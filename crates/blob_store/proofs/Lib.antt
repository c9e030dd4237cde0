pub mod Parts
pub mod Paths
pub mod PartReads
pub mod Waiting
