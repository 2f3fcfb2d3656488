pub mod Bytes
pub mod Seal
