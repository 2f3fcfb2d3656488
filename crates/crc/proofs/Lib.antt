pub mod Xor
pub mod Linear
pub mod Table
pub mod Step
