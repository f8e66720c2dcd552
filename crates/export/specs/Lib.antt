pub mod Types
pub mod Packed
pub mod State
