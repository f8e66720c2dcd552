pub mod Laws
pub mod Listed
pub mod Fits
mod Cases
