pub mod Faults
pub mod OfFile
