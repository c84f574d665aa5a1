-- The record of a match is that of its case, in whatever order its provers post.
pub mod JournalLemmas
pub mod BracketLemmas
pub mod StagedLemmas
pub mod AskedLemmas
pub mod SoFarLemmas
pub mod OfCasesLemmas
