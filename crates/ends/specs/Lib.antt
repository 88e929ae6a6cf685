pub mod Ends
pub mod Faults
pub mod Filing
pub mod Ledgers
pub mod Steps
