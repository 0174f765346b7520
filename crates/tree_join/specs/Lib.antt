pub mod Squares
pub mod Leaves
pub mod Remembered
pub mod Laws
pub mod Rows
