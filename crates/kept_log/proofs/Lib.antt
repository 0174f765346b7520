pub mod Texts
pub mod Along
pub mod Moments
pub mod FoundLaws
