pub mod Cures
pub mod Files
pub mod Films
pub mod Refusals
pub mod Rows
