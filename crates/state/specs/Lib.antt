pub mod Types
pub mod Fields
