pub mod PlanLaws
pub mod OutputLaws
