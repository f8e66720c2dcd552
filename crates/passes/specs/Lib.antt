pub mod Types
pub mod Pass
