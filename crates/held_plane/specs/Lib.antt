pub mod Held
pub mod Wanted
