pub mod HeldParts
pub mod Ticks
pub mod Tests
pub mod TestLaws
pub mod MachineRuling
pub mod MachineTruth
pub mod MachineFair
