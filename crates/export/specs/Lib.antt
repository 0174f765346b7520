pub mod ExportFault
pub mod Export
pub mod Asking
pub mod Kept
pub mod Laws
pub mod Rows
