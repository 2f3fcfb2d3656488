pub mod Turns
pub mod Opening
pub mod Wrote
