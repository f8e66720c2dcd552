pub mod Types
pub mod Sheet
pub mod Promises
pub mod Cases
