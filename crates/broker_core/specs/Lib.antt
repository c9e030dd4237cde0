pub mod Broker
pub mod Held
pub mod Inside
pub mod Kept
pub mod Places
pub mod Rising
pub mod Roomy
pub mod Traffic
