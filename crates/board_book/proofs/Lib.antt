pub mod BookLemmas
pub mod AloneLemmas
pub mod CaseLemmas
pub mod KeepingLemmas
pub mod FinishLemmas
pub mod OnlyLemmas
