pub mod ExportLaws
pub mod TileLaws
pub mod AskingLaws
pub mod CountLaws
