pub mod Types
pub mod Lines
