pub mod AnswerLemmas
pub mod BytesLemmas
pub mod EachLemmas
pub mod FaultLemmas
pub mod FieldLemmas
pub mod FormLemmas
