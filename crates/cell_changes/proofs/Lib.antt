pub mod Lists
pub mod AreaLaws
pub mod SettledCells
pub mod Changing
pub mod Putting
pub mod Joining
pub mod Covering
