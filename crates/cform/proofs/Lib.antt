pub mod Phases
pub mod Back
