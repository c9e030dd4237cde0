pub mod First
pub mod Kinds
pub mod Limits
pub mod Name
pub mod Text
pub mod Words
