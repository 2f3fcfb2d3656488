pub mod Lines
pub mod Values
