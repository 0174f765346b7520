mod ServingLaws
pub mod KeptLaws
