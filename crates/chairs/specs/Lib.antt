pub mod Turns
pub mod Pages
pub mod Rows
