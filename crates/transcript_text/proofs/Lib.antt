pub mod VerdictLemmas
pub mod LineLemmas
pub mod AgainstLemmas
pub mod MoveLemmas
pub mod read_back
pub mod TaskPartLemmas
