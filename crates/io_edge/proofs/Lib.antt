pub mod Known
pub mod CopyLemmas
