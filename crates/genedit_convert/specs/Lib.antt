pub mod Names
pub mod Converted
pub mod Macrocells
pub mod Runs
pub mod Outputs
pub mod Rows
