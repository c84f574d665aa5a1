pub mod CaseScripts
pub mod CaseCode
pub mod Prover
pub mod Growing
pub mod OneAnswer
