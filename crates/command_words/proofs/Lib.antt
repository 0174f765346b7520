pub mod QuoteLaws
pub mod RangeLaws
pub mod SpelledLaws
