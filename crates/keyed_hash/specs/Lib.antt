pub mod Key
pub mod Keyed
pub mod Rows
