pub mod Types
pub mod Participant
pub mod Decision
pub mod Cases
