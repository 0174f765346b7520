pub mod DictationLaws
pub mod PieceLaws
pub mod SpellingLaws
