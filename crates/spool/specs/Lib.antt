pub mod Entries
pub mod Lists
pub mod Lots
pub mod Meanings
pub mod Rules
