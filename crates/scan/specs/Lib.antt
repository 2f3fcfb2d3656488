pub mod Settle
pub mod Feed
pub mod Passed
pub mod Scan
