pub mod Journal
pub mod Laws
pub mod Rows
