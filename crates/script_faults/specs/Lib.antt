pub mod Faults
pub mod Findings
pub mod Laws
pub mod Rows
pub mod Refusals
pub mod Warnings
