pub mod Items
pub mod Offsets
pub mod Texts
