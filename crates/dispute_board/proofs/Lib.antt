pub mod Journals
pub mod Points
pub mod There
pub mod Single
