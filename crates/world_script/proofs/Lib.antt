pub mod ServerCommands
pub mod PlayLemmas
pub mod ProcessLemmas
pub mod ProgramEndLemmas
pub mod ReadLemmas
pub mod RunLemmas
pub mod ScriptLemmas
