pub mod RootLaws
pub mod JoiningLaws
pub mod WantedLaws
