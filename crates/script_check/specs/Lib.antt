pub mod Block
pub mod Shown
pub mod Report
pub mod Check
pub mod Rows
