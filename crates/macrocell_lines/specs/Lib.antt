pub mod Squares
pub mod Lines
pub mod Listing
pub mod Raised
pub mod Middle
pub mod Roots
pub mod Macrocell
pub mod FileNames
