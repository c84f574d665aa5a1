pub mod CaseLemmas
pub mod StringLemmas
pub mod OpenedLemmas
pub mod MetLemmas
pub mod VerdictLemmas
