pub mod Leaf
pub mod Lanes
pub mod Same
pub mod Rows
