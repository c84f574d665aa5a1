-- How many posts aren't stale, whoever posts whatever, and that a match that isn't over asks somebody.
pub mod QuestionLemmas
pub mod NeverLemmas
pub mod SpentLemmas
pub mod SumLemmas
pub mod StageCountLemmas
pub mod LowestLemmas
pub mod DelayLemmas
pub mod ProgressLemmas
pub mod ServedLemmas
pub mod PeriodLemmas
pub mod SpareLemmas
