pub mod PullingLaws
pub mod TalkLaws
