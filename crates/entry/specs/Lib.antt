pub mod Wanted
pub mod Bits
pub mod Code
