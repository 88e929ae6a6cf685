pub mod Carrying
pub mod Chains
pub mod Counting
pub mod Faulting
