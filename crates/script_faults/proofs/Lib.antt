pub mod FaultLemmas
pub mod CommandLemmas
pub mod WarningLaws
