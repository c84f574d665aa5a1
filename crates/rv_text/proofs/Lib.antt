pub mod WorkedRows
pub mod Runs
pub mod digits
pub mod RowLemmas
pub mod PassLemmas
pub mod read_back
pub mod meaning
