pub mod State
pub mod Said
pub mod Refusals
pub mod Outcome
pub mod Counting
pub mod Code
