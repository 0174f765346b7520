pub mod Lowered
pub mod FrontLaws
pub mod LawProofs
pub mod Steps
