pub mod Turning
pub mod Way
pub mod Laws
pub mod Rows
