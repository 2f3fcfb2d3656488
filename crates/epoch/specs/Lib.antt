pub mod Second
pub mod Ranges
