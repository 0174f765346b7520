pub mod Hands
pub mod Books
pub mod Counts
pub mod Settled
