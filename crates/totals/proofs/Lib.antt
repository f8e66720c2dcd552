pub mod Bytes
pub mod Run
pub mod Counting
pub mod Handed
