pub mod Faults
pub mod Closing
pub mod Serving
pub mod Keeping
pub mod Rows
