pub mod Values
pub mod Walks
pub mod Ends
pub mod Drafts
pub mod Admitted
