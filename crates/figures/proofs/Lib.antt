pub mod Sums
pub mod Single
pub mod Kept
pub mod Refusals
pub mod Once
pub mod Column
pub mod Fits
pub mod Cases
