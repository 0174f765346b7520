pub mod Spellings
pub mod Names
pub mod Families
pub mod FamilyWords
pub mod SpelledRule
pub mod HeaderRule
pub mod Rows
