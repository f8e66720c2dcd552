pub mod Types
pub mod Tail
pub mod Single
