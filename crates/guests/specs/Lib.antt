pub mod Guest
pub mod Sum
pub mod Adler32
pub mod Adler32File
