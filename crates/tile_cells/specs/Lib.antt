pub mod Listing
pub mod Causes
