pub mod Refusal
pub mod Fault
pub mod Canonical
pub mod Run
pub mod Rows
