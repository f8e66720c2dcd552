pub mod Types
pub mod Message
