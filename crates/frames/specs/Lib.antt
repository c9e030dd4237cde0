pub mod Answer
pub mod FrameText
pub mod Kind
pub mod Lacking
pub mod Laws
pub mod Reading
pub mod Says
pub mod Stream
