pub mod MoveLaws
pub mod PeriodLaws
pub mod ExtentLaws
