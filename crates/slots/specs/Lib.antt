pub mod Slots
pub mod Stores
pub mod Tables
pub mod Holdings
pub mod Views
