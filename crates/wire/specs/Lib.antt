pub mod Little
pub mod Range
pub mod Parts
