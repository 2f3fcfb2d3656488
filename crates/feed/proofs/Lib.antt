pub mod Pasting
pub mod Kept
pub mod Bounds
pub mod Literally
