pub mod SeatLaws
pub mod ListLaws
mod TurningLaws
mod EndingLaws
pub mod OneListLaws
