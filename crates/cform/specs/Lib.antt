pub mod State
pub mod Answer
pub mod Draft
pub mod Theorems
