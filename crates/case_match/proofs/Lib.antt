pub mod EndingLemmas
pub mod SafetyLemmas
pub mod HonestLemmas
pub mod RefutedLemmas
pub mod TaskLemmas
