pub mod Channel
pub mod Reading
pub mod Writing
