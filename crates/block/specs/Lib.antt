pub mod Block
pub mod Code
