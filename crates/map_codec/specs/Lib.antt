pub mod Handover
pub mod Laws
pub mod Named
pub mod Raising
pub mod Taking
