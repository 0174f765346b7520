pub mod Counters
pub mod Opening
pub mod Macrocells
pub mod Saved
