-- What a statement says: its word, its labels, and its faults.
pub mod InstructionLemmas
pub mod MeaningLemmas
pub mod LaterLemmas
pub mod LabelLemmas
pub mod UnknownLemmas
pub mod CauseLemmas
pub mod TextLemmas
pub mod OneTargetLemmas
pub mod TargetLemmas
