pub mod Fault
pub mod Away
pub mod Commands
pub mod Ends
pub mod Rescue
pub mod Rows
pub mod Waiting
