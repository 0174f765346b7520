pub mod ListLemmas
pub mod TileLemmas
pub mod FillLemmas
