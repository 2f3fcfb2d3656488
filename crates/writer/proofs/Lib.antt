pub mod Stamps
pub mod Parts
pub mod Rows
pub mod Lengths
pub mod Whole
pub mod Given
pub mod Told
