pub mod Elf
pub mod Fault
pub mod Image
