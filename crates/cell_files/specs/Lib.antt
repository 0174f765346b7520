pub mod Formats
pub mod Drawn
pub mod Heads
pub mod MCell
pub mod Plaintext
pub mod Comments
pub mod Files
pub mod Rows
