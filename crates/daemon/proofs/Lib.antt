pub mod Owned
pub mod Positions
pub mod ServingLemmas
pub mod DaemonCalls
pub mod BeginningLemmas
pub mod PhaseLemmas
pub mod PartLemmas
pub mod HandingLemmas
