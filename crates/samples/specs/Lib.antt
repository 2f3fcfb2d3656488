pub mod Transcript
pub mod Samples
pub mod PppInfo
pub mod Flight
