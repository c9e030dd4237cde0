pub mod ByteLemmas
pub mod FieldLaws
pub mod PairLaws
pub mod StepLemmas
pub mod WriteLemmas
pub mod YieldLemmas
