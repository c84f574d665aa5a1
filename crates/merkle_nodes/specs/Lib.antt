pub mod Node
pub mod Opening
pub mod TreeStrings
pub mod Heap
pub mod Renewals
pub mod Split
pub mod PathLaws
