pub mod Plain
pub mod Says
