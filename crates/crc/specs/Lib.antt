pub mod Crc
pub mod Samples
