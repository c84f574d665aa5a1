pub mod Text
pub mod TextLaws
pub mod Kinds
pub mod Chain
pub mod Sha256Bytes
pub mod Weak8
pub mod Weak8Bytes
pub mod Name
