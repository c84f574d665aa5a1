-- To believe: the definitions that the contracts of this crate cite.
pub mod Device
pub mod MemSink
pub mod MemSource
