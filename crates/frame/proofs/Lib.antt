pub mod Cases
pub mod View
pub mod Standing
pub mod Parts
pub mod Last
