pub mod SavedLaws
pub mod OpeningLaws
pub mod MacrocellLaws
