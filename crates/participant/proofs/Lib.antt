pub mod Numbers
pub mod Decision
pub mod Takes
mod Cases
