pub mod HubFault
pub mod HubCall
pub mod Request
pub mod Replies
pub mod Rows
