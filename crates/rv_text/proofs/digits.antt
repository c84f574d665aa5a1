-- Numbers in a text: read, capped, added up, and read back from how they are printed.
pub mod CappedLemmas
pub mod Ranges
pub mod SumLemmas
pub mod HexLemmas
pub mod NumberLemmas
