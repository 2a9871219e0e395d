pub mod ScriptLemmas
pub mod LineLemmas
