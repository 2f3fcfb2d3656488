pub mod Nests
pub mod Blocks
