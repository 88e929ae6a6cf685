pub mod Collecting
pub mod Lots
