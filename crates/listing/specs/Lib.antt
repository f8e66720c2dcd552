pub mod Types
pub mod Listing
