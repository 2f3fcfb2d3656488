pub mod Block
pub mod Write
pub mod Code
