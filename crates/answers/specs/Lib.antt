pub mod Samples
pub mod Theorems
pub mod Before
pub mod OneLevel
pub mod TwoLevels
