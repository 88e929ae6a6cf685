pub mod Envelopes
pub mod Examples
pub mod Paths
