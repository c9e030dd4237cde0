pub mod BucketLemmas
pub mod CellLemmas
pub mod MapLemmas
pub mod TierLemmas
