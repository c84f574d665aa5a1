pub mod StateRoot
pub mod Strings
pub use Rattle.rv_step.specs.StateCode
pub mod Committing
pub mod Binding
