pub mod Script
pub mod ScriptFault
pub mod Laws
pub mod Rows
