pub mod TurnLaws
pub mod KeyLaws
