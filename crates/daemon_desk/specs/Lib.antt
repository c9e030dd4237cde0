pub mod Desk
pub mod Inside
pub mod Handover
