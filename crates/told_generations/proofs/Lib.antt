pub mod CountLaws
pub mod SearchLaws
pub mod OutcomeLaws
pub mod MacrocellLaws
pub mod FilmLaws
