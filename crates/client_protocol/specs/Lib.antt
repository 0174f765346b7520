pub mod Spelling
pub mod Asking
pub mod Rows
