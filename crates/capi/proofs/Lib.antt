pub mod Refusing
pub mod Going
pub mod Telling
pub mod Handing
pub mod Making
