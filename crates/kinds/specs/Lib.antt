pub mod Types
pub mod Marks
pub mod Grid
pub mod Seed
