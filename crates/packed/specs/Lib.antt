pub mod Meaning
pub mod Packing
pub mod Logs
pub mod Cuts
