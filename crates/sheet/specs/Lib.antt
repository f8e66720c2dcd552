pub mod Types
pub mod Level
