pub mod Types
pub mod Adding
pub mod Handed
