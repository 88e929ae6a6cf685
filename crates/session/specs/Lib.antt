pub mod Standings
pub mod Turns
pub mod Places
pub mod Seeking
pub mod Queues
