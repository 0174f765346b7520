pub mod FrameFault
pub mod Frames
pub mod Framed
pub mod FrameLaws
pub mod Layout
pub mod Rows
