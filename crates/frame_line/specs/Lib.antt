pub mod LineFault
pub mod Receiving
pub mod Talking
