pub mod Bare
pub mod Reading
pub mod Worked
