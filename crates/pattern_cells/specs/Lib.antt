pub mod Cells
pub mod Pattern
pub mod Window
