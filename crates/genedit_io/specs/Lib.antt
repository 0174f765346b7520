pub mod RunFault
pub mod Cause
pub mod Runs
pub mod Rows
