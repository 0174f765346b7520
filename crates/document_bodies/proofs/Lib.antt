pub mod BodyTexts
pub mod BodyLaws
pub mod BodyReads
pub mod NewestLaws
