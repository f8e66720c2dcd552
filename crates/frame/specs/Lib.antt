pub mod Types
pub mod Frame
