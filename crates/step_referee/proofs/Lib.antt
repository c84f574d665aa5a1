pub mod CarryLemmas
pub mod BoundLemmas
pub mod ChangeLemmas
pub mod LeadLemmas
pub mod RangeLemmas
pub mod TruthLemmas
