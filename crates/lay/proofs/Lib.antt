pub mod Ending
pub mod Laying
pub mod Filling
pub mod Low
pub mod Ends
