pub mod Encode
pub mod Fits
pub mod Theorems
pub mod Limits
