pub mod PieceLemmas
pub mod CursorLemmas
