pub mod SampleLaws
pub mod CountLaws
pub mod RoundLaws
pub mod TickLaws
pub mod LineLaws
pub mod FitLaws
pub mod PointLaws
pub mod ReadingLaws
