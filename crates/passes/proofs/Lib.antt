pub mod Reading
pub mod Passed
pub mod Begun
pub mod Going
