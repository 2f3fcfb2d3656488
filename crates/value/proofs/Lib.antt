pub mod Sign
pub mod Floats
pub mod Types
