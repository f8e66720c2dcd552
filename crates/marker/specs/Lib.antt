pub mod Types
pub mod Report
pub mod Run
pub mod Demand
pub mod Headers
pub mod Moved
pub mod Cases
