pub mod BindingLemmas
pub mod ScratchLemmas
pub mod StateLemmas
pub mod VersionLemmas
