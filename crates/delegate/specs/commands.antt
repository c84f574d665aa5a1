-- To believe. The commands, a file each.
pub mod Judge
pub mod Run
pub mod Roots
pub mod Audit
pub mod List
pub mod Big
