pub mod Faults
pub mod Sessions
pub mod Serving
pub mod Turning
pub mod OneList
