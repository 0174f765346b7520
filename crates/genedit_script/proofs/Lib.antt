pub mod HeadLaws
pub mod LineLemmas
pub mod PieceLaws
pub mod ScriptLaws
pub mod ScriptLemmas
pub mod SortLaws
pub mod WordLaws
