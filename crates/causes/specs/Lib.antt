pub mod Passed
pub mod Causes
pub mod Code
