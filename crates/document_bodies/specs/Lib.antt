pub mod Faults
pub mod Bodies
pub mod Reading
pub mod Newest
pub mod Counters
pub mod Rows
