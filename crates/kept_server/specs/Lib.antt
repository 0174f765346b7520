pub mod Faults
pub mod Running
pub mod Serving
pub mod Restarts
