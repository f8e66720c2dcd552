pub mod Types
pub mod Coordinator
pub mod Cases
