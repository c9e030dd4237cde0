pub mod Histories
pub mod Laws
pub mod Node
pub mod Phases
pub mod Versions
