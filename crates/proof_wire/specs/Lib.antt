pub mod Fault
pub mod FirstFault
pub mod Reading
pub mod Wire
