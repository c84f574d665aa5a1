pub mod GrowingLemmas
pub mod ScriptLemmas
pub mod OrderLemmas
pub mod RunLemmas
