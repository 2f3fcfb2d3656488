pub mod ReadRun
pub mod Why
pub mod Before
pub mod Theorems
