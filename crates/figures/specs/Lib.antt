pub mod Types
pub mod Class
pub mod Sums
pub mod Figures
pub mod Promises
pub mod Cases
