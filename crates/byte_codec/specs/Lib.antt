pub mod Reading
pub mod Codec
pub mod Laws
pub mod Rows
