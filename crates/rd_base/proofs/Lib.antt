pub mod RegsLemmas
