pub mod Checking
pub mod Saying
pub mod Accepted
