pub mod Decimals
pub mod Joins
