pub mod Lengths
pub mod Column
pub mod Fits
