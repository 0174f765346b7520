pub mod Urls
pub mod Tokens
pub mod Rows
