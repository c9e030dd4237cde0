pub mod Cells
pub mod Map
