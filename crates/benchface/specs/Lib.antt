pub mod Four
pub mod Written
