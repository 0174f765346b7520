pub mod Moves
pub mod Periods
pub mod PlanePeriods
pub mod Told
pub mod Laws
pub mod Rows
