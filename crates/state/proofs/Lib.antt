pub mod Places
pub mod Pieces
pub mod Parts
pub mod Filling
