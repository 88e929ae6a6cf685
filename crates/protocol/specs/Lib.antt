pub mod Lines
pub mod Buffers
pub mod Messages
pub mod DataParts
pub mod Outputs
pub mod Replies
