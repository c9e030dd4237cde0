pub mod Queue
pub mod Groups
