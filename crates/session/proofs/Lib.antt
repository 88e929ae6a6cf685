pub mod Obeying
pub mod Laying
pub mod Chunking
pub mod Hearing
pub mod Queuing
