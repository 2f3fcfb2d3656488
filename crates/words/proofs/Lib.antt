pub mod Apart
pub mod Reading
pub mod Valuing
