pub mod Types
pub mod Start
pub mod Move
pub mod Kept
pub mod Cases
