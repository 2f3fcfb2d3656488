pub mod Frame
pub mod Judge
