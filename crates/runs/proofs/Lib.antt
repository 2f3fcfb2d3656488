pub mod Feeding
pub mod Going
pub mod Giving
pub mod Emptying
