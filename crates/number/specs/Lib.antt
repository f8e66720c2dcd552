pub mod Types
pub mod Refusal
pub mod Numbering
pub mod Table
pub mod Low
