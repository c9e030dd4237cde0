pub mod Beginning
pub mod Looking
pub mod Printed
pub mod Reading
