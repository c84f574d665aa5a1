pub mod DrawLemmas
pub mod TreeLemmas
