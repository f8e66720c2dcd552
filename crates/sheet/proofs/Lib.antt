pub mod Bytes
pub mod Levels
pub mod Whole
