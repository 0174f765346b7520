pub mod UniverseFault
pub mod Numbered
pub mod States
pub mod Reaches
pub mod Lowered
pub mod Middles
pub mod Refusals
