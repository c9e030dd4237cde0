pub mod GitCommit
pub mod GitForm
pub mod GitMode
pub mod GitObject
pub mod GitRecord
pub mod GitTree
