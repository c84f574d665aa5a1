pub mod AskLemmas
pub mod CastLemmas
pub mod ClaimLemmas
pub mod ForTests
pub mod PaidLemmas
pub mod ProverLemmas
pub mod TaskLemmas
pub mod TellLemmas
