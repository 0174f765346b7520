pub mod Comparing
pub mod Growing
pub mod Joining
pub mod Keeping
pub mod Pieces
pub mod Reading
