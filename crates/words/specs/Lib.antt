pub mod Theorems
pub mod Words
pub mod Values
pub mod Keys
