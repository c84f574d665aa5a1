pub mod Answering
pub mod Numbering
pub mod Ended
pub mod Seats
pub mod Servers
pub mod Swaps
pub mod Blocks
pub mod ByClass
