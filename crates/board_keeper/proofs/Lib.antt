pub mod Files
pub mod Growing
pub mod Doing
pub mod Turning
pub mod Loads
pub mod Ends
