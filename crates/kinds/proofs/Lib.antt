pub mod Below
pub mod Types
pub mod Marks
pub mod Unset
pub mod Seed
