pub mod Commands
pub mod Dictation
pub mod Laws
pub mod Rows
