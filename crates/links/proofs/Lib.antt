pub mod AheadLaws
pub mod ChannelLaws
pub mod ReadingLaws
pub mod WritingLaws
