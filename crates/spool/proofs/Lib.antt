pub mod Fronts
pub mod Lots
pub mod Owned
pub mod Places
pub mod Told
