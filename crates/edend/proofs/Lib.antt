pub mod CommandLemmas
pub mod FailedCommands
mod NotedCommands
