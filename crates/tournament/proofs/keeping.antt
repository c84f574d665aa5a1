-- A match and its sheet as they are kept.
pub mod KeepingLemmas
pub mod PostedLemmas
