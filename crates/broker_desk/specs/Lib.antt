pub mod Changed
pub mod Desk
pub mod Forgets
pub mod Inside
pub mod Kernel
pub mod Progress
