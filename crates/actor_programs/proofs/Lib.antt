pub mod ActorLemmas
pub mod FileLemmas
pub mod MadeLemmas
pub mod ProgramLemmas
pub mod ScriptLemmas
