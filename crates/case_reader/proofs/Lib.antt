pub mod RangeLemmas
pub mod ReadingLemmas
pub mod FaultLemmas
pub mod TapeLemmas
pub mod TaskLemmas
pub mod TaskFaults
pub mod TamperLemmas
