pub mod OneHistory
pub mod Turns
pub mod OneTask
