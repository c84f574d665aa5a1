pub mod Entries
pub mod Tasks
pub mod Alone
pub mod CaseRecords
pub mod Keeping
