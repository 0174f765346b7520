pub mod WayLaws
pub mod PlaneLaws
pub mod TurningLaws
pub mod PatternLaws
pub mod OrderLaws
