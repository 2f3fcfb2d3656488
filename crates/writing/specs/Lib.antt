pub mod Holds
pub mod Theorems
pub mod Giving
pub mod Samples
pub mod InForce
