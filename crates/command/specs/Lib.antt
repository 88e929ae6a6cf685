pub mod Arguments
pub mod Chunks
pub mod Faults
pub mod Lines
pub mod Numerals
pub mod Parameters
pub mod Verbs
