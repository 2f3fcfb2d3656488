pub mod Laws
pub mod Accepted
