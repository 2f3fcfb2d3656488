pub mod Theorems
pub mod OneLevel
pub mod TwoLevels
