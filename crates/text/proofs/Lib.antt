pub mod Laws
pub mod Putting
mod Cases
