pub mod Taken
pub mod Answered
pub mod Moved
pub mod Kept
pub mod Begun
pub mod AnyRefusal
pub mod Cases
