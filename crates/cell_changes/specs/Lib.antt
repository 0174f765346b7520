pub mod Changes
pub mod Put
