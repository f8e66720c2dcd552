pub mod Lengths
pub mod Kept
pub mod Fits
