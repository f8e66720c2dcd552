pub mod Types
pub mod Form
pub mod Kept
