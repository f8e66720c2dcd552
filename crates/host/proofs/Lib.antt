pub mod Laws
pub mod Handed
pub mod Agrees
pub mod Cases
pub mod Decision
