pub mod Refusals
pub mod SeatCalls
