pub mod EvolutionLaws
pub mod SetLaws
pub mod PartLemmas
pub mod TextLaws
