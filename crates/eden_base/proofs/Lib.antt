pub mod FirstLemmas
pub mod MemberLemmas
pub mod NumberTests
mod OrderLemmas
pub mod PermLemmas
mod Separators
