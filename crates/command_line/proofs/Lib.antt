pub mod WordsLemmas
pub mod NumberLemmas
pub mod OptionLemmas
pub mod TakenLemmas
pub mod BigLemmas
pub mod PlainLemmas
