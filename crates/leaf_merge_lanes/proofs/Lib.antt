pub mod Select
pub mod Writes
