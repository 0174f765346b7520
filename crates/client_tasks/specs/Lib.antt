pub mod Carrying
pub mod Opening
pub mod Undoing
