pub mod Batches
pub mod Header
pub mod Init
pub mod Message
pub mod Opendir
pub mod Responder
pub mod Statfs
pub mod Told
