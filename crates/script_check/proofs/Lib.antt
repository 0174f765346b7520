pub mod LineLemmas
pub mod ReportLemmas
pub mod CheckLemmas
