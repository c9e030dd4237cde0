pub mod Bytes
pub mod Field
pub mod Reading
pub mod Writing
