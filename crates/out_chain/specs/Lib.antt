pub mod Root
pub mod Soundness
pub mod Collision
pub mod ClaimLaws
