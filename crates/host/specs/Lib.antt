pub mod Types
pub mod Host
pub mod Agrees
pub mod Decision
pub mod Handed
