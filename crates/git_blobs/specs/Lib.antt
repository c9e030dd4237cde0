pub mod ReadOrder
pub mod Reading
pub mod Serving
