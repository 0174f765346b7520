pub mod CountLemmas
pub mod FamilyLemmas
pub mod LineLemmas
pub mod TableLemmas
