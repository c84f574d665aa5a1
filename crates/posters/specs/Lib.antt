pub mod Serving
pub mod Classes
pub mod ByClass
pub mod Swaps
pub mod Arranging
