pub mod ListLaws
pub mod Exports
pub mod NumberLaws
