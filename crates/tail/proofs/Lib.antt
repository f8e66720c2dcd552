pub mod TailRange
pub mod SingleCases
pub mod Stepping
pub mod Follows
pub mod Cases
