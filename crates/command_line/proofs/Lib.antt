pub mod AskedLemmas
pub mod CommandLemmas
pub mod PlainWords
