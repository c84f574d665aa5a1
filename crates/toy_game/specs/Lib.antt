pub mod Toy
pub mod Fair
pub mod OneAnswer
