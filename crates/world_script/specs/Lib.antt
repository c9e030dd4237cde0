-- The definitions that the contracts of this crate cite.
pub mod FaultText
pub mod Input
pub mod Parts
pub mod Process
pub mod ProgramEnd
pub mod Refusal
pub mod Script
pub mod Source
