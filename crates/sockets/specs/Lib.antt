pub mod Allowance
pub mod Folders
pub mod Passage
pub mod Waits
