pub use Rattle.serde_json.specs.Data
pub use Rattle.serde_json.specs.Written
pub use Rattle.case_reader.specs.Case
pub mod Draws
pub mod Program
pub mod Workload
