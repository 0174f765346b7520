pub mod Refusals
pub mod Searches
pub mod Counts
pub mod FilmTexts
pub mod Films
pub mod Macrocells
pub mod Rows
