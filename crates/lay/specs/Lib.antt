pub mod Fields
pub mod Code
