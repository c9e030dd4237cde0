pub mod Buffers
pub mod Channel
pub mod Endings
pub mod Faults
pub mod Owned
pub mod Replays
pub mod Round
