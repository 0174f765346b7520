pub mod Runs
pub mod Ends
pub mod Told
pub mod Restarting
