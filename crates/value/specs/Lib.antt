pub mod Said
pub mod Bits
