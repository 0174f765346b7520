pub mod Dropping
pub mod Moving
pub mod CellLists
pub mod DrawnPlaces
pub mod Undoing
pub mod Ending
pub mod Noting
