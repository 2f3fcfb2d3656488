pub mod Stores
pub mod Sealing
