pub mod Counts
pub mod Keeps
pub mod Rooms
