pub mod Standing
pub mod Deciding
pub mod Reading
pub mod Calls
pub mod Why
pub mod Before
