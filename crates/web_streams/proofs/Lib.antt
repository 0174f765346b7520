pub mod LimitLaws
pub mod HearingLaws
pub mod ReaderLaws
pub mod HeadLaws
pub mod SessionLaws
