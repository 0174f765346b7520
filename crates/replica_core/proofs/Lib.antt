pub mod DrawLaws
pub mod SideBySide
pub mod SameMaps
pub mod StandingLaws
pub mod ExchangeLaws
pub mod CurrentLaws
pub mod EventLaws
pub mod HistoryLaws
pub mod HeadlineLaws
pub mod ReplyLaws
pub mod PeerLaws
pub mod RoomLaws
mod RunLaws
pub mod NotedEdits
mod AgainLaws
pub mod StateLaws
pub mod UniverseLaws
pub mod TellLaws
