pub mod Kept
pub mod Found
pub mod Faults
pub mod States
pub mod FindFaults
