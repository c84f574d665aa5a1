pub mod LoadsLemmas
pub mod OverlapLemmas
