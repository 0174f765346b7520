pub mod NumberBytes
pub mod NameLaws
