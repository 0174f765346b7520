pub mod Sample
pub mod Axis
pub mod Chart
pub mod Laws
pub mod Rows
