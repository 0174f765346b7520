pub mod Steps
pub mod PartLaws
pub mod CodecLaws
pub mod ManySteps
