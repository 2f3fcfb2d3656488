pub mod Range
pub mod Theorems
