pub mod Standing
pub mod Keep
pub mod Reopen
pub mod Memory
pub mod Rows
