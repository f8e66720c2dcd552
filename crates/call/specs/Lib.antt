pub mod Types
pub mod Steps
