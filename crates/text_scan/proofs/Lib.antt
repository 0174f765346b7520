pub mod SplitLemmas
pub mod NumberLemmas
pub mod WordLemmas
