pub use Rattle.checkpoint_run.specs.TamperedRun
pub use Rattle.checkpoint_run.specs.Recorded
pub use Rattle.state_commit.specs.StateRoot
pub mod Roots
pub mod Pieces
pub mod Cursor
