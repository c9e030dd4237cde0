pub mod InodeMap
pub mod Inside
pub mod Loaded
pub mod Pruned
pub mod Words
