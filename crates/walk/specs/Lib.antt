pub mod Walk
pub mod Theorems
