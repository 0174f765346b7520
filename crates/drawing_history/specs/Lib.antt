pub mod Drawings
pub mod Findings
pub mod Laws
pub mod Makings
pub mod Strokes
pub mod Ways
