pub mod Seconds
pub mod Fields
pub mod Numbers
pub mod Ranges
