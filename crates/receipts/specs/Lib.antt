pub mod Topics
pub mod About
pub mod Ends
