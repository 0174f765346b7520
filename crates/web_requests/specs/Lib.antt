pub mod Head
pub mod Routes
pub mod Letting
pub mod Texts
pub mod Rows
