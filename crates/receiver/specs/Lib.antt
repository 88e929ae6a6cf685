pub mod Settling
pub mod Turns
pub mod Ending
pub mod Moments
